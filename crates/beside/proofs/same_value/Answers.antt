-- `beside::same_value` meets its contract. Assumes nothing.
use mathlib.Core.Path.{sym, ap₂, ◌∙◌}
use lib.Dec.{eqb}
use Rattle.beside.specs.Beside.{same_value}
use Rattle.beside.proofs.Places.{same_one}
use Rattle.beside.proofs.same_value.Goals as goal

pub returns : goal.returns
unfolding same_value
returns c =
    let same = ap₂ eqb c.bits.ensures.is c.bits-2.ensures.is in
    record { is = same; one = λ e. same_one c.well_formed.0.1 c.well_formed.1.0.1 (sym same ∙ e) }
