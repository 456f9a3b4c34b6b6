-- A time from +0 on, by comparisons: it is above 0, or the zero whose inverse is. Assumes nothing.
use mathlib.Core.Path.{◌≡◌, refl, sym}
use mathlib.Core.Bool.{Bool, true, false, not}
use Prim.Native.Nat.{zero, suc}
use native.Mathlib.Omega.{arith}
use lib.IntN.{pos}
use lib.Ieee.{Float, nan, inf, fin, binary64, unlike, lt, eq, div}
use Rattle.rules.specs.Numbers.{plus_zero, is_finite, is_zero, is_positive, is_negative}
use Rattle.floats.proofs.Compared.{is_none, not_below}
use Rattle.laws.specs.Sound.{is_from_zero}
use Rattle.laws.proofs.Tests.{never, clash}
use Rattle.laws.proofs.Results.{positive_from_zero, above_zero}

pub above_is : (t : Float) → lt plus_zero t ≡ true → true ≡ is_from_zero t
unfolding is_positive
above_is t h = sym (positive_from_zero t h)

pub zero_is : (t : Float) → eq t plus_zero ≡ true → lt plus_zero (div binary64 (fin false 1 (pos 0)) t) ≡ is_from_zero t
unfolding is_from_zero eq lt div
zero_is nan h = never h
zero_is (inf s) h = never h
zero_is (fin s zero e) h = go s
  where
    go : (s : Bool) → lt plus_zero (inf (unlike false s)) ≡ not s
    go true = unfold lt in refl
    go false = unfold lt in refl
zero_is (fin s (suc m) e) h = absurd (omega (arith, is_none s (suc m) e h))

pub neither_is : (t : Float) → lt plus_zero t ≡ false → eq t plus_zero ≡ false → false ≡ is_from_zero t
unfolding is_from_zero lt eq is_finite is_positive is_negative is_zero
neither_is nan h k = refl
neither_is (inf true) h k = refl
neither_is (inf false) h k = never (sym h)
neither_is (fin true m e) h k = refl
neither_is (fin false m e) h k = clash (above_zero (fin false m e) refl (not_below m e) k) h
