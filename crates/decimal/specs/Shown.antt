-- A float as a person reads it: "printed with up to 6 places behind the point, what does not fit that as its bits".
use Rattle.std.specs.Prelude.{ℕ, zero, suc, ◌*◌, ◌/◌, ◌%◌, ◌^◌, Bool, cond, ◌&&◌, ◌||◌, List, [], ◌∷◌, ◌++◌, ◌==◌, nat_lt, Float, Option, None, Some}
use Prim.Native.Char.{code}
use Rattle.std.specs.Float.{nan, inf, fin, Format}
use Rattle.std.specs.Float.Ieee.{up, down}
use Rattle.std.specs.Float.Ieee.Nearest.{closest}
use Rattle.text.specs.Digits.{digits_of, decimal_of}
use Rattle.text.specs.Floats.{float_text}
use Rattle.decimal.specs.Codes.{codes}
use Rattle.decimal.specs.declared.write.Printed.{Printed}

-- ---- the number

-- num / den in millionths, to the nearest one, a tie to the even one
unfoldable pub millionths : ℕ → ℕ → ℕ
millionths num den = closest (num * 10 ^ 6) den

-- ±num / den, where its whole part is below 2 ^ 64; nothing but 0 is shown as 0
unfoldable pub shown_as : Bool → ℕ → ℕ → Option Printed
shown_as minus num den =
    let n = millionths num den in
    cond (nat_lt num (2 ^ 64 * den) && (num == 0 || nat_lt 0 n)) (Some (Printed.Decimal minus (n / 10 ^ 6) (n % 10 ^ 6))) None

unfoldable pub shown : Float → Option Printed
shown nan = Some Printed.NotANumber
shown (inf s) = Some (Printed.Infinite s)
shown (fin s m e) = shown_as s (m * up e) (down e)

-- ---- its text

unfoldable pub sign_text : Bool → List ℕ
sign_text minus = cond minus (codes "-") []

-- the digits of k places, without the zeros at their end, behind a point
unfoldable pub places_text : ℕ → ℕ → List ℕ
places_text zero n = []
places_text (suc k) n = let less = places_text k (n / 10) in cond (n % 10 == 0) less (code "." ∷ digits_of 10 (suc k) n)

unfoldable pub shown_text : Printed → List ℕ
shown_text Printed.NotANumber = codes "NaN"
shown_text (Printed.Infinite s) = sign_text s ++ codes "inf"
shown_text (Printed.Decimal s whole n) = sign_text s ++ (decimal_of whole ++ places_text 6 n)

-- `x` and the bits, where it is not shown otherwise
unfoldable pub text_of : Format → Float → Option Printed → List ℕ
text_of f x (Some s) = shown_text s
text_of f x None = code "x" ∷ float_text f x

unfoldable pub plain_text : Format → Float → List ℕ
plain_text f x = text_of f x (shown x)
