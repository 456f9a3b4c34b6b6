-- The floor of x, from the pattern of x + 3 * 2 ^ 33: where x is less than 60 * 2 ^ 24 - 1 from 0, and the pattern does not end in 18 zeros. Assumes nothing.
use Rattle.std.proofs.Common.{◌≡◌, ℕ, ◌+◌, ◌-◌, ◌*◌, ◌%◌, ◌^◌, ◌<◌, ◌≤◌, true, false, ◌⊎◌, pos, refl, inl, arith, ltb-true, lt-ltb}
use mathlib.Core.Bool.{false≢true}
use lib.Ieee.{Float, nan, inf, fin, binary64, up, down, round, sum, add, lt, to_bits}
use lib.Ieee.Fits.{down_pos}
use Rattle.rules.specs.Numbers.{plus_zero}
use Rattle.phases.proofs.Quick.{bits}
use Rattle.decays.specs.Cell.{Lifts}
use Rattle.runs.specs.Placed.{InLifts}
use Rattle.runs.proofs.Placing.{Below, Above, above_no_nan, from_low, to_high, floor_lifted, zero_or, zero_bits, kept}

-- one less than 60 * 2 ^ 24: a sum that is nearer to 3 * 2 ^ 33 + 60 * 2 ^ 24 may round to it
abbrev edge : ℕ
edge = 60 * 2 ^ 24 - 1

abbrev pub low : Float
low = fin true edge (pos 0)

abbrev pub top : Float
top = fin false edge (pos 0)

-- ---- the pattern of the sum

low_bits : to_bits binary64 (round binary64 false (3 * 2 ^ 33 - 60 * 2 ^ 24) 1) ≡ 1082820 * 2 ^ 42
unfolding round to_bits
low_bits = refl

high_bits : to_bits binary64 (round binary64 false (3 * 2 ^ 33 + edge) 1) ≡ 1082940 * 2 ^ 42 - 2 ^ 18
unfolding round to_bits
high_bits = refl

rounded : (num den : ℕ) → 0 < den → 3 * 2 ^ 33 * den ≤ num + edge * den → num ≤ (3 * 2 ^ 33 + edge) * den → InLifts (to_bits binary64 (round binary64 false num den))
rounded num den P l h =
    let over : (3 * 2 ^ 33 - 60 * 2 ^ 24) * den ≤ num * 1 = omega arith in
    let under : num * 1 ≤ (3 * 2 ^ 33 + edge) * den = omega arith in
    let small : to_bits binary64 (round binary64 false (3 * 2 ^ 33 + edge) 1) % 2 ^ 63 < 2047 * 2 ^ 52 = omega (arith, high_bits) in (
      omega (arith, low_bits, from_low num den (3 * 2 ^ 33 - 60 * 2 ^ 24) (3 * 2 ^ 33 + edge) P over under small),
      omega (arith, high_bits, to_high num den (3 * 2 ^ 33 - 60 * 2 ^ 24) (3 * 2 ^ 33 + edge) P over under small),
    )

-- a / d more than 3 * 2 ^ 33, and as much less
module _ (a d : ℕ) (P : 0 < d) (l : a * 1 < edge * 1 * d) where
  more : InLifts (to_bits binary64 (sum binary64 false (a * 1) false (3 * 2 ^ 33 * d) (d * 1)))
  unfolding sum
  more = rounded (a * 1 + 3 * 2 ^ 33 * d) (d * 1) (omega arith) (omega arith) (omega arith)

  less : InLifts (to_bits binary64 (sum binary64 true (a * 1) false (3 * 2 ^ 33 * d) (d * 1)))
  unfolding sum
  less =
      rw (lt-ltb (a * 1) (3 * 2 ^ 33 * d) (omega arith))
      (rounded (3 * 2 ^ 33 * d - a * 1) (d * 1) (omega arith) (omega arith) (omega arith))

inside : (x : Float) → lt low x ≡ true → lt x top ≡ true → InLifts (bits x)
unfolding lt add
inside nan l h = absurd (false≢true h)
inside (inf true) l h = absurd (false≢true l)
inside (inf false) l h = absurd (false≢true h)
inside (fin true m e) l h = less (m * up e) (down e) (down_pos e) (ltb-true (m * up e * 1) (edge * 1 * down e) l)
inside (fin false m e) l h = more (m * up e) (down e) (down_pos e) (ltb-true (m * up e * 1) (edge * 1 * down e) h)

-- ---- after both tests

-- what the pattern b is, whether or not it shows the floor of x
abbrev pub LiftedAt : Float → ℕ → Type 0
LiftedAt x b = (1082820 * 2 ^ 42 ≤ b) × (b < 1082940 * 2 ^ 42) × ((b % 2 ^ 18 ≡ 0) ⊎ Lifts x b)

lifted_inside : (x : Float) → lt low x ≡ true → lt x top ≡ true → LiftedAt x (bits x)
lifted_inside x l h =
    let i = inside x l h in (
      i.0,
      i.1,
      zero_or (bits x % 2 ^ 18) (λ n. record { lo = i.0; hi = i.1; lifted = floor_lifted x (above_no_nan low x l) (omega (arith, i.0)) (omega (arith, i.1)) n }),
    )

zero_inside : InLifts (bits plus_zero)
unfolding lt
zero_inside = inside plus_zero refl refl

pub kept_lifted : (x u z : Float) → Below top x u → Above low u z → LiftedAt x (bits z)
kept_lifted x u z = kept (λ (w : Float). LiftedAt x (bits w)) low top x u z (zero_inside.0, zero_inside.1, inl zero_bits) (lifted_inside x)
