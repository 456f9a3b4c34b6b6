-- When a sum a * y + c of f32 values, for a y up to 1 whose pattern is bx at least, is exact as an f64, and zero or in the range of f32's normal numbers.
use Rattle.std.specs.Prelude.{◌≡◌, ◌⊎◌, ℕ, ◌+◌, ◌*◌, ◌/◌, ◌%◌, ◌^◌, ◌≤◌, not, T, Float}
use Rattle.std.specs.Float.{binary32, binary64}
use Rattle.std.specs.Float.Ieee.{to_bits, fits, is_nan}

-- a pattern without its sign, and its exponent's field
abbrev pub unsigned : Float → ℕ
unsigned x = to_bits binary64 x % 2 ^ 63

abbrev pub field : Float → ℕ
field x = unsigned x / 2 ^ 52

-- 2 ^ (grid - 1046) divides a: as the exponent shows, by 2 ^ 16 more where a has at most eight digits, and by any such power where a is 0
abbrev pub Grid : Float → ℕ → Type 0
Grid a grid = ((unsigned a ≡ 0) × (grid ≤ 1196)) ⊎ ((897 ≤ field a) × ((grid ≡ field a) ⊎ ((grid ≡ field a + 16) × (to_bits binary64 a % 2 ^ 45 ≡ 0))))

-- by a and c of like size: `high` is above both and above their sum
pub record Once (a c : Float) (bx : ℕ) : Type 0 where
  pub high : ℕ
  pub grid : ℕ
  pub few : Grid a grid
  pub over : field a + 2 ≤ high
  pub over_c : field c + 2 ≤ high
  pub least : 950 ≤ high
  pub most : high ≤ 1147
  pub first : 898 * 2 ^ 52 ≤ bx
  pub room : high + 1017 ≤ grid + bx / 2 ^ 52
  pub third : (unsigned c ≡ 0) ⊎ (high ≤ field c + 29)

-- x is one of those y, as far as its pattern shows
abbrev pub Within : ℕ → Float → Type 0
Within bx x = (bx ≤ to_bits binary64 x) × (to_bits binary64 x ≤ 1023 * 2 ^ 52) × T (not (is_nan x))

-- y is an `f32` for which that holds
pub record Served (a c y : Float) : Type 0 where
  pub bx : ℕ
  pub once : Once a c bx
  pub fit : T (fits binary32 y)
  pub from : bx / 2 ^ 52 ≤ field y
  pub upto : to_bits binary64 y ≤ 1023 * 2 ^ 52
