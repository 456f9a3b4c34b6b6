-- A format's numbers, a finite float taken apart, and a bit pattern put together. Definitions only. Assumes nothing.
use Rattle.std.specs.Prelude.{◌≡◌, ◌⊎◌, Bool, cond, ℕ, ◌+◌, ◌-◌, ◌*◌, ◌^◌, ◌≤◌, ◌<◌, Float}
use Rattle.std.specs.Float.{Format}
use Rattle.std.specs.Float.Ieee.{prec, low, hid, ones, top, round, of_bits}
use Rattle.std.specs.Float.Ieee.Exact.{HasValue}

-- the numbers of a format that code works with: a significand's digits, in a pattern the weight of the leading one and of the sign, and an exponent's field of ones alone
pub record Widths (f : Format) (digits lead sign all_ones : ℕ) : Type 0 where
  pub digits_is : digits ≡ prec f
  pub lead_is : lead ≡ hid f
  pub sign_is : sign ≡ top f
  pub ones_is : all_ones ≡ ones f

-- whole numbers are packed as multiples of 2 ^ -place
abbrev pub place : Format → ℕ
place f = 896 + low f + (64 - prec f)

-- x is ±m * 2 ^ j units of the format's smallest value, with all digits unless j is 0
pub record Parted (f : Format) (x : Float) (s : Bool) (m j : ℕ) : Type 0 where
  pub value : HasValue x s (m * 2 ^ j) (2 ^ low f)
  pub short : m < 2 ^ prec f
  pub reach : j < ones f
  pub lead : (hid f ≤ m) ⊎ (j ≡ 0)

-- m is the pattern, without its sign, of d * 2 ^ e / 2 ^ G rounded
pub record Packed (f : Format) (d e G m : ℕ) : Type 0 where
  pub most : m ≤ ones f * hid f
  pub rounds : (s : Bool) → of_bits f (cond s (top f) 0 + m) ≡ round f s (d * 2 ^ e) (2 ^ G)
