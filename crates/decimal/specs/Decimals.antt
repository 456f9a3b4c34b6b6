-- A word read as a decimal number: `-`, digits with a point among them, and `e` with the tens. "A decimal of up to 15 digits and
-- tens up to 10^22 is rounded once to an f64": the digits count up to 2 ^ 53, so 16 of them where they are no more than that.
use Rattle.std.specs.Prelude.{ℕ, suc, ◌+◌, ◌*◌, ◌^◌, Bool, true, false, cond, ◌&&◌, ◌||◌, [], ◌∷◌, ◌++◌, length, take, drop, ◌==◌, nat_le, Float, Option, None, Some}
use Prim.Native.Char.{code}
use Rattle.std.specs.Float.{nan, inf, Format, binary32, binary64}
use Rattle.std.specs.Float.Ieee.{round}
use Rattle.rules.specs.Numbers.{narrowed}
use Rattle.scan.specs.Bytes.{index_of}
use Rattle.text.specs.Digits.{number_in}
use Rattle.text.specs.Floats.{float_in}
use Rattle.text.specs.Words.{Word, same_word, count_in}
use Rattle.decimal.specs.Codes.{codes}
use Rattle.decimal.specs.declared.read.Tens.{Tens}

-- ---- the parts of a word

unfoldable pub is_minus : Word → Bool
is_minus [] = false
is_minus (c ∷ cs) = c == (code "-")

unfoldable pub sign_length : Word → ℕ
sign_length [] = 0
sign_length (c ∷ cs) = cond (c == (code "-") || c == (code "+")) 1 0

-- a number behind its sign
unfoldable pub behind_sign : Word → Word
behind_sign w = drop (sign_length w) w

-- a word up to a character
unfoldable pub before : ℕ → Word → Word
before c w = take (index_of c w) w

-- the digits and the point, up to the tens
unfoldable pub digits_part : Word → Word
digits_part u = before (code "E") (before (code "e") u)

-- the digits before the point, and those behind it
unfoldable pub whole_digits : Word → Word
whole_digits m = before (code ".") m

unfoldable pub fraction_digits : Word → Word
fraction_digits m = drop (suc (length (whole_digits m))) m

-- ---- what they say

-- the digits as one whole number: at least one, and up to 2 ^ 53
unfoldable pub digits_in : Word → Option ℕ
digits_in m = count_in (2 ^ 53) (whole_digits m ++ fraction_digits m)

-- n tens to multiply by, or to divide by
unfoldable pub tens_of : Bool → Option ℕ → Option Tens
tens_of minus None = None
tens_of minus (Some n) = Some (cond minus (Tens.Down n) (Tens.Up n))

-- what stands behind the digits: nothing, or an `e` and a number with or without a sign
unfoldable pub tens_in : Word → Option Tens
tens_in [] = Some (Tens.Up 0)
tens_in (c ∷ cs) = tens_of (is_minus cs) (number_in 10 (behind_sign cs))

-- ---- the number

-- ±d * 10 ^ up / 10 ^ down as the nearest f64, where no more than 22 tens are left over
unfoldable pub scaled_by : Bool → ℕ → ℕ → ℕ → Option Float
scaled_by minus d up down =
    cond (nat_le up (down + 22) && nat_le down (up + 22)) (Some (round binary64 minus (d * 10 ^ up) (10 ^ down))) None

-- with `places` digits behind the point
unfoldable pub scaled : Bool → ℕ → Option ℕ → Option Tens → Option Float
scaled minus places None t = None
scaled minus places (Some d) None = None
scaled minus places (Some d) (Some (Tens.Up n)) = scaled_by minus d n places
scaled minus places (Some d) (Some (Tens.Down n)) = scaled_by minus d 0 (places + n)

unfoldable pub unsigned_in : Bool → Word → Option Float
unsigned_in minus u = scaled minus (length (fraction_digits (digits_part u))) (digits_in (digits_part u)) (tens_in (drop (length (digits_part u)) u))

unfoldable pub decimal_in : Word → Option Float
decimal_in w = unsigned_in (is_minus w) (behind_sign w)

-- `NaN`, `inf` and `-inf`, or a decimal
unfoldable pub named_in : Word → Option Float
named_in w =
    cond (same_word w (codes "NaN")) (Some nan)
    (cond (same_word w (codes "inf")) (Some (inf false)) (cond (same_word w (codes "-inf")) (Some (inf true)) (decimal_in w)))

-- ---- as a float of a format

-- an f64 as it is; "a value then narrowed to f32"
unfoldable pub held : Format → Option Float → Option Float
held f None = None
held binary32 (Some x) = Some (narrowed x)
held binary64 (Some x) = Some x

-- `x` and the float's bits, or a number
unfoldable pub plain_in : Format → Word → Option Float
plain_in f [] = None
plain_in f (c ∷ cs) = cond (c == (code "x")) (float_in f cs) (held f (named_in (c ∷ cs)))
