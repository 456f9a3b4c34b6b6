-- Floats as their IEEE 754 bits in hexadecimal, "8 digits for an f32 and 16 for an f64".
use Rattle.std.specs.Prelude.{List, ℕ, ◌%◌, ◌^◌, Float, Option, None, Some}
use Rattle.std.specs.Float.{Format, binary32, binary64}
use Rattle.std.specs.Float.Ieee.{of_bits, to_bits}
use Rattle.text.specs.Digits.{bits_in, digits_of}

abbrev pub digits_for : Format → ℕ
digits_for binary32 = 8
digits_for binary64 = 16

-- "A NaN is read from any NaN pattern"
unfoldable pub float_of : Format → Option ℕ → Option Float
float_of f (Some bits) = Some (of_bits f bits)
float_of f None = None

-- the float of a number's low bits, as many as the format has
abbrev pub of_word : Format → ℕ → Float
of_word binary32 n = of_bits binary32 (n % 2 ^ 32)
of_word binary64 n = of_bits binary64 n

unfoldable pub float_in : Format → List ℕ → Option Float
float_in f cs = float_of f (bits_in (digits_for f) cs)

-- written; a NaN "always .. as `7fc00000` or `7ff8000000000000`", which is the pattern that `to_bits` has for it
unfoldable pub float_text : Format → Float → List ℕ
float_text f x = digits_of 16 (digits_for f) (to_bits f x)
