-- `stands` meets its contract. Assumes nothing.
use mathlib.Core.Path.{◌≡◌, sym, subst}
use mathlib.Core.Logic.{inl, inr}
use mathlib.Core.Bool.{true, not, false≢true}
use lib.Dec.{T, eqb}
use lib.Ieee as Ieee
use lib.Ieee.{Float, binary32}
use Rattle.rounding_laws.proofs.Cut.{no_nan_eq}
use Rattle.rounding_laws.proofs.Zero.{minus_zero, plus_zero_lem}
use Rattle.mix.proofs.stands.Goals as goal

-- the pattern of -0
minus : (x : Float) → x ≡ minus_zero → not (eqb (Ieee.to_bits binary32 x) 2147483648) ≡ true → ⊥
unfolding Ieee.to_bits
minus x e h = false≢true (subst (λ (y : Float). not (eqb (Ieee.to_bits binary32 y) 2147483648) ≡ true) e h)

pub float_to_bits-result : goal.float_to_bits-result
float_to_bits-result c = no_nan_eq c.args.x c.if-x.true

pub returns-then-x : goal.returns-then-x
returns-then-x c h =
    let x = c.args.x in
    elim (plus_zero_lem binary32 x (subst T (sym c.well_formed.0.1) tt)) [
      | inl e ↦ absurd (minus x e h)
      | inr e ↦ e
    ]

pub returns : goal.returns
returns c h = absurd (false≢true h)
