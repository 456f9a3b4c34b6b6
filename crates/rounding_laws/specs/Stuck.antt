-- A whole number that stands for a fraction, for rounding: the fraction itself, or an odd number less than one away from it. A sum cut in this way. Definitions only. Assumes nothing.
use Rattle.std.specs.Prelude.{◌≡◌, ◌⊎◌, Bool, cond, ℕ, ◌+◌, ◌-◌, ◌*◌, ◌%◌, ◌^◌, ◌≤◌, ◌<◌}
use Rattle.std.specs.Bool.{beq}
use Rattle.std.specs.Float.{Format}
use Rattle.std.specs.Float.Ieee.{prec, low, hid, round, sum}
use Rattle.rounding_laws.specs.Total.{total_sign, total_size}

-- v stands for a / b
abbrev pub Stuck : ℕ → ℕ → ℕ → Type 0
Stuck v a b = (v * b ≡ a) ⊎ ((v % 2 ≡ 1) × (v * b < a + b) × (a < v * b + b))

-- a sum of like signs is counted in units twice as large: it has a digit more, and a difference may lose one
abbrev pub extra : Bool → ℕ
extra like = cond like 1 0

-- ±d * 2 ^ u stands for twice the sum of ±x * 2 ^ e and ±y * 2 ^ g, for a g up to e
pub record Added (s : Bool) (x e : ℕ) (t : Bool) (y g : ℕ) (n : Bool) (d u : ℕ) : Type 0 where
  pub sign : n ≡ total_sign s (x * 2 ^ (e - g)) t y
  pub unit : u ≡ e + extra (beq s t)
  pub stands : Stuck d (total_size (beq s t) (x * 2 ^ (e - g)) y * 2) (2 ^ (e - g + extra (beq s t)))

-- ±d * 2 ^ u over 2 ^ 65 rounds as the sum of ±m * 2 ^ i and ±n * 2 ^ j does, both in units of 2 ^ -D: in a format of 63 - h digits, of which n has all, or n * 2 ^ j is far down
abbrev pub Sums : Bool → ℕ → ℕ → Bool → ℕ → ℕ → ℕ → Bool → ℕ → ℕ → Type 0
Sums s m i t n j h neg d u = (f : Format) (D : ℕ) → prec f + h ≡ 63 → low f ≤ D → (hid f ≤ n) ⊎ (j + 2 + low f ≤ D + h) → round f neg (d * 2 ^ u) (2 ^ (D + 65)) ≡ sum f s (m * 2 ^ i) t (n * 2 ^ j) (2 ^ D)
