-- `silent_value` meets its contract. Assumes nothing.
use mathlib.Core.Path.{sym, ap, ◌∙◌, subst}
use mathlib.Core.Bool.{cond}
use lib.Dec.{T}
use lib.Ieee as Ieee
use lib.Ieee.{Float, binary32}
use Rattle.rules.specs.Numbers.{plus_zero}
use Rattle.mix.proofs.Silent.{silent}
use Rattle.mix.proofs.silent_value.Goals as goal

pub returns : goal.returns
unfolding Ieee.of_bits
returns c = λ h.
    let b = c.args.bounds in
    ap (Ieee.add binary32 plus_zero) (c.smaller.ensures ∙ ap (λ (l : Float). cond (Ieee.lt b.max l) b.max l) c.larger.ensures)
    ∙ silent b c.requires c.args.value (subst T (sym c.well_formed.1.0.1) tt) h
