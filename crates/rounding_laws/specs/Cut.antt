-- What code does with the pattern of an `f64` to round it to an `f32`: a sum, and the low 29 bits cut. Definitions only. Assumes nothing.
use Rattle.std.specs.Prelude.{ℕ, ◌+◌, ◌-◌, ◌/◌, ◌%◌, ◌^◌}

-- to the nearest, a tie up
abbrev pub plain_cut : ℕ → ℕ
plain_cut n = n + 2 ^ 28 - (n + 2 ^ 28) % 2 ^ 29

-- to the nearest, a tie to the even one
abbrev pub even_cut : ℕ → ℕ
even_cut n = n + 268435455 + n / 2 ^ 29 % 2 - (n + 268435455 + n / 2 ^ 29 % 2) % 2 ^ 29
