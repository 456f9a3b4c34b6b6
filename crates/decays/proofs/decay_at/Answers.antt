-- `decays::decay_at` meets its contract. Assumes nothing.
use mathlib.Core.Path.{◌≡◌, sym, ap, ◌∙◌, subst}
use mathlib.Core.Bool.{not, ◌&&◌}
use Prim.Native.Nat.{ℕ}
use lib.Dec.{T}
use lib.Ieee.{Float, binary64, fits, is_nan, of_bits, nan_bits}
use lib.Ieee.Fits.{and_i, fits_widens}
use Rattle.rules.specs.Numbers.{narrowed}
use Rattle.rules.specs.Samples.{decay_of, decay}
use Rattle.samples.proofs.Fading.{decay_gone, decay-left}
use Rattle.decays.specs.Told.{steps_in, Steps}
use Rattle.decays.proofs.Fits.{decay_fits, decay_no_nan}
use Rattle.decays.proofs.decay_at.Goals as goal
use Rattle.decays.proofs.decay_at.Goals.{Then-b-lt4763106361758187520}

-- steps that are seen, and few
steps : (c : Then-b-lt4763106361758187520) → Steps c.in-Some.b
steps c = record { lo = c.in-Some.ensures.lo; hi = c.if-b-lt4763106361758187520.true }

factor : (c : Then-b-lt4763106361758187520) → narrowed (decay_of (steps_in c.in-Some.b)) ≡ decay c.args.y
unfolding of_bits
factor c =
    let r = c.before.before in
    ap (λ (p : ℕ). narrowed (decay_of p)) c.in-Some.ensures.whole ∙ decay-left r.args.y r.if-y.false

castable : (v y : Float) → v ≡ decay y → T (fits binary64 v && not (is_nan v))
castable v y e = subst (λ (v : Float). T (fits binary64 v && not (is_nan v))) (sym e) (and_i (fits binary64 (decay y)) (not (is_nan (decay y))) (fits_widens (decay y) (decay_fits y)) (decay_no_nan y))

pub returns-then-y : goal.returns-then-y
unfolding of_bits
returns-then-y c = decay_gone c.args.y c.if-y.true

pub told_of-requires : goal.told_of-requires
told_of-requires c = steps c

pub shown_by-requires : goal.shown_by-requires
shown_by-requires c = (steps (goal.at.shown_by-requires c).Then-b-lt4763106361758187520, c.told_of.ensures.high)

pub float_from_bits-result : goal.float_from_bits-result
float_from_bits-result c = subst (λ (n : ℕ). T (not (nan_bits binary64 n))) (sym c.shown_by.ensures) c.told_of.ensures.holds.1

pub returns-then-b-lt4763106361758187520 : goal.returns-then-b-lt4763106361758187520
returns-then-b-lt4763106361758187520 c = ap (of_bits binary64) c.shown_by.ensures ∙ c.told_of.ensures.holds.0 ∙ factor (goal.at.returns-then-b-lt4763106361758187520 c).Then-b-lt4763106361758187520

pub float_to_float-result : goal.float_to_float-result
float_to_float-result c = castable _ _ c.decay_by.ensures
