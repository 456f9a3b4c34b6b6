-- Two products that round to one `f32`.
use Rattle.std.specs.Prelude.{◌≡◌, ℕ, ◌+◌, ◌-◌, ◌*◌, ◌/◌, ◌%◌, ◌^◌, ◌≤◌, ◌<◌, T, Float}
use Rattle.std.specs.Float.{binary64}
use Rattle.std.specs.Float.Ieee.{mul, of_bits, to_bits}
use Rattle.std.specs.Float.Ieee.Scale.{finite}
use Rattle.rules.specs.Numbers.{narrowed}
use Rattle.rules.specs.Samples.{factor_of}
use Rattle.rounding_laws.specs.Cut.{plain_cut}
use Rattle.phases.specs.Patterns.{Lifted}

-- the pattern of `from` times what n is the pattern of
abbrev pub product : Float → ℕ → ℕ
product from n = to_bits binary64 (mul binary64 from (of_bits binary64 n))

-- that of n, in the range of normal `f32`, rounds to r, and lies with that of n - 20 * 2 ^ 21 between the same two midpoints
pub record Cell (from : Float) (n r : ℕ) : Type 0 where
  pub lo : 899 * 2 ^ 52 ≤ product from n % 2 ^ 63
  pub hi : product from n % 2 ^ 63 < 1149 * 2 ^ 52
  pub apart : (product from (n - 41943040) + 2 ^ 28) % 2 ^ 29 ≡ 0 → ⊥
  pub same : (product from (n - 41943040) + 2 ^ 28) / 2 ^ 29 ≡ (product from n + 2 ^ 28) / 2 ^ 29
  pub cut : r ≡ plain_cut (product from n)

-- b is the pattern of x + 3 * 2 ^ 33, whose digits before the last 18 show the floor of x; x is within 60 * 2 ^ 24 of 0
pub record Lifts (x : Float) (b : ℕ) : Type 0 where
  pub lo : 1082820 * 2 ^ 42 ≤ b
  pub hi : b < 1082940 * 2 ^ 42
  pub lifted : Lifted x ((b - 1057 * 2 ^ 52) / 2 ^ 18)

-- n is the pattern of an estimate of the factor for x that is good enough for that: what such products round to, the one by the factor narrows to
pub record Grown (x : Float) (n : ℕ) : Type 0 where
  pub least : 41943040 ≤ n
  pub most : n ≤ 2046 * 2 ^ 52
  pub tells : (from : Float) (r : ℕ) → T (finite from) → Cell from n r → of_bits binary64 r ≡ narrowed (mul binary64 from (factor_of x))

-- a number whose size is from 2 ^ -60 to 2 ^ 60: with it no product by such a factor leaves the normal `f32`
pub record Middle (x : Float) : Type 0 where
  pub fine : T (finite x)
  pub low : 963 * 2 ^ 52 ≤ to_bits binary64 x % 2 ^ 63
  pub high : to_bits binary64 x % 2 ^ 63 ≤ 1083 * 2 ^ 52
