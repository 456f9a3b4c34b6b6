-- The factor of a target: 0 far out, else by its whole number of steps. Assumes nothing.
use Rattle.std.proofs.Common.{◌≡◌, ℕ, suc, ◌+◌, ◌-◌, ◌*◌, ◌/◌, ◌%◌, ◌^◌, ◌<◌, true, false, pos, arith}
use lib.Ieee.{Float, fin, binary32, binary64, round, mul, le, of_int}
use Rattle.rules.specs.Numbers.{plus_zero, wide, whole_part, narrowed}
use Rattle.rules.specs.Kernels.{parts, falling}
use Rattle.rules.specs.Samples.{decay, decay_of}
use Rattle.samples.proofs.Cut.{scaled_le}
use Rattle.samples.proofs.Moved.{moved}

-- r(a) * 2 ^ (-32 - w), as `norm` writes it
pub steps_norm : (p : ℕ) → p < 161 * parts → round binary32 false (falling (p % parts) * 2 ^ (331 - p / parts)) (2 ^ 363) ≡ narrowed (decay_of p)
unfolding decay_of narrowed
steps_norm p h = moved binary32 false (falling (p % parts)) (331 - p / parts) 363 0 (suc (31 + p / parts)) (omega arith)

module _ (y : Float) where
  pub decay_gone : le (fin false 5 (pos 5)) y ≡ true → plus_zero ≡ decay y
  unfolding decay wide of_int
  decay_gone h = rw h

  module _ (h : le (fin false 5 (pos 5)) y ≡ false) where
    pub steps_few : whole_part (mul binary64 y (fin false 1 (pos 24))) < 161 * parts
    unfolding whole_part
    steps_few = omega (arith, scaled_le y h)

    pub decay-left : narrowed (decay_of (whole_part (mul binary64 y (fin false 1 (pos 24))))) ≡ decay y
    unfolding decay wide of_int
    decay-left = rw h
