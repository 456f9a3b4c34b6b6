-- The sum of two signed whole numbers, as `lib.Ieee.sum` takes it: its sign and its size. Definitions only. Assumes nothing.
use Rattle.std.specs.Prelude.{Bool, ◌&&◌, cond, ℕ, ◌+◌, ◌-◌, ltb}
use Rattle.std.specs.Bool.{beq}

-- the sign of ±a + ±b: a sum that is zero is negative only where both are
abbrev pub total_sign : Bool → ℕ → Bool → ℕ → Bool
total_sign s a t b = cond (beq s t) s (cond (ltb a b) t (s && ltb b a))

-- its size: a + b for like signs, else how far a and b are apart
abbrev pub total_size : Bool → ℕ → ℕ → ℕ
total_size like a b = cond like (a + b) (a - b + (b - a))
