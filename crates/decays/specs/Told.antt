-- A target's factor by its pattern.
use Rattle.std.specs.Prelude.{ℕ, ◌+◌, ◌-◌, ◌*◌, ◌/◌, ◌^◌, ◌≤◌, ◌<◌, Float}
use Rattle.rules.specs.Numbers.{narrowed}
use Rattle.rules.specs.Samples.{decay_of}
use Rattle.phases.specs.Patterns.{Holds}

-- n is the pattern of y, which is at least 2 ^ -(few + 1), and 1 at most
pub record Told (few n : ℕ) (y : Float) : Type 0 where
  pub holds : Holds n y
  pub low : (1022 - few) * 2 ^ 52 ≤ n
  pub high : n ≤ 1023 * 2 ^ 52

-- the whole number of steps that b shows, the pattern of a number 3 * 2 ^ 33 above them
abbrev pub steps_in : ℕ → ℕ
steps_in b = (b - 2115 * 2 ^ 51) / 2 ^ 18

-- such a pattern, of steps that halve a factor 124 times at most
pub record Steps (b : ℕ) : Type 0 where
  pub lo : 2115 * 2 ^ 51 ≤ b
  pub hi : b < 2115 * 2 ^ 51 + 125 * 2 ^ 42

-- the pattern of a factor after the steps of b, its 24 digits those of u but for the last eight
abbrev pub shown : ℕ → ℕ → ℕ
shown b u = (1083901 - b / 2 ^ 42) * 2 ^ 52 + u / 256 * 2 ^ 29

-- u shows the factor after the steps of b
abbrev pub Shows : ℕ → ℕ → Type 0
Shows b u = Told (steps_in b / 2 ^ 24) (shown b u) (narrowed (decay_of (steps_in b)))
