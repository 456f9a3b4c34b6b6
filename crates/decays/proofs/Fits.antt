-- The factor of a target is an f32, and no NaN. Assumes nothing.
use mathlib.Core.Bool.{Bool, true, false, cond, not}
use Prim.Native.Nat.{◌+◌, ◌*◌, ◌/◌, ◌%◌, ◌^◌}
use lib.Dec.{T}
use lib.Ieee.{Float, binary32, binary64, le, mul, fits, is_nan}
use Rattle.rules.specs.Numbers.{plus_zero, wide, whole_part, narrowed}
use Rattle.rules.specs.Kernels.{parts, falling}
use Rattle.rules.specs.Samples.{decay, decay_of}
use Rattle.rounding_laws.proofs.Cut.{narrowed_fits}
use Rattle.rounding_laws.proofs.Wide.{round_no_nan}

module _ (y : Float) where
  pub decay_fits : T (fits binary32 (decay y))
  unfolding decay
  decay_fits = go (le (wide 160) y)
    where
      go : (b : Bool) → T (fits binary32 (cond b plus_zero (narrowed (decay_of (whole_part (mul binary64 y (wide parts)))))))
      go true = unfold fits in tt
      go false = narrowed_fits (decay_of (whole_part (mul binary64 y (wide parts))))

  pub decay_no_nan : T (not (is_nan (decay y)))
  unfolding decay
  decay_no_nan = go (le (wide 160) y)
    where
      p : Prim.Native.Nat.ℕ
      p = whole_part (mul binary64 y (wide parts))

      go : (b : Bool) → T (not (is_nan (cond b plus_zero (narrowed (decay_of (whole_part (mul binary64 y (wide parts))))))))
      go true = unfold is_nan in tt
      go false = unfold decay_of narrowed in round_no_nan binary32 false (falling (p % parts) * 1) (2 ^ Prim.Native.Nat.suc (31 + p / parts))
