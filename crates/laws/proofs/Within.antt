-- What the mix gives lies within the bounds. Assumes nothing.
use mathlib.Core.Path.{◌≡◌, refl, ap}
use mathlib.Core.Bool.{Bool, true, false, cond}
use mathlib.Core.List.{List, [], ◌∷◌}
use Prim.Native.Nat.{suc}
use native.Mathlib.Omega.{arith}
use lib.ListN.{length}
use lib.Ieee as Ieee
use lib.Ieee.{Float}
use Rattle.rules.specs.declared.Bounds.{Bounds}
use Rattle.rules.specs.Refusals.{are_bounds, all_finite}
use Rattle.rules.specs.Mix.{clamped, settled, mixed, mixed_all}
use Rattle.laws.specs.Sound.{is_number}
use Rattle.laws.proofs.Tests.{both}
use Rattle.laws.proofs.Order.{le_left, le_right, le_le, number_le, not_lt}

pub record Within (b : Bounds) (x : Float) : Type 0 where
  pub above : Ieee.le b.min x ≡ true
  pub under : Ieee.le x b.max ≡ true

abbrev pub AllWithin : Bounds → List Float → Type 0
AllWithin b [] = Unit {0}
AllWithin b (x ∷ xs) = Within b x × AllWithin b xs

module _ (b : Bounds) (good : are_bounds b ≡ true) where
  pub default_within : Within b b.default
  unfolding are_bounds
  default_within =
      let a = both (all_finite (b.min ∷ b.default ∷ b.max ∷ [])) _ good in
      let l = both (Ieee.le b.min b.default) (Ieee.le b.default b.max) a.1 in
      record { above = l.0; under = l.1 }

  low : is_number b.min ≡ true
  low = le_left b.min b.default default_within.above

  high : is_number b.max ≡ true
  high = le_right b.default b.max default_within.under

  span : Ieee.le b.min b.max ≡ true
  span = le_le b.min b.default b.max default_within.above default_within.under

  clamped-within : (x : Float) → is_number x ≡ true → Within b (clamped b x)
  unfolding clamped
  clamped-within x p = go (Ieee.lt x b.min) (Ieee.lt b.max x) refl refl
    where
      go : (l h : Bool) → Ieee.lt x b.min ≡ l → Ieee.lt b.max x ≡ h → Within b (cond l b.min (cond h b.max x))
      go true h e f = record { above = number_le b.min low; under = span }
      go false true e f = record { above = span; under = number_le b.max high }
      go false false e f = record { above = not_lt x b.min p low e; under = not_lt b.max x high p f }

  pub settled-within : (x : Float) → Within b (settled b x)
  unfolding settled
  settled-within x = go (Ieee.is_nan x) refl
    where
      go : (n : Bool) → Ieee.is_nan x ≡ n → Within b (cond n b.default (clamped b x))
      go true e = default_within
      go false e = clamped-within x (unfold is_number in rw e)

  -- the current value, too
  pub mixed-within : (input value : Float) → Within b (mixed b input value)
  unfolding mixed
  mixed-within input value = settled-within (Ieee.add Ieee.binary32 input value)

  pub all-within : (is vs : List Float) → AllWithin b (mixed_all b is vs)
  unfolding mixed_all
  all-within [] vs = tt
  all-within (i ∷ is) [] = tt
  all-within (i ∷ is) (v ∷ vs) = (mixed-within i v, all-within is vs)

pub mixed-length : (b : Bounds) (is vs : List Float) → length is ≡ length vs → length (mixed_all b is vs) ≡ length vs
unfolding mixed_all
mixed-length b [] vs h = h
mixed-length b (i ∷ is) [] h = refl
mixed-length b (i ∷ is) (v ∷ vs) h = ap suc (mixed-length b is vs (omega arith))
