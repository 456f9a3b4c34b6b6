-- An answer of the session language as a person reads it: its words as they are, its floats in plain numbers, and what a refusal means.
use Rattle.std.specs.Prelude.{Bool, cond, ◌||◌, List, [], ◌∷◌, ◌++◌, ℕ, eqb, Float, Option, None, Some}
use Prim.Native.Char.{code}
use Rattle.std.specs.Float.{Format, binary32, binary64}
use Rattle.text.specs.Floats.{float_in}
use Rattle.text.specs.Words.{Word, same_word, joined, words_of, taken, count_in}
use Rattle.decimal.specs.Codes.{codes}
use Rattle.decimal.specs.Shown.{plain_text}

-- ---- the fields of a line

-- what stands between two fields: a space, a colon or a comma
unfoldable pub is_mark : ℕ → Bool
is_mark c = eqb c (code " ") || (eqb c (code ":") || eqb c (code ","))

-- a line's fields and the marks between them, each mark by itself
unfoldable pub parts : List ℕ → List Word
parts [] = [] ∷ []
parts (c ∷ cs) = let more = parts cs in cond (is_mark c) ([] ∷ (c ∷ []) ∷ more) (joined c more)

-- ---- in plain numbers

unfoldable pub shown_or : Format → List ℕ → Option Float → List ℕ
shown_or f other None = other
shown_or f other (Some x) = plain_text f x

-- 8 hexadecimal digits are a value and 16 a time, since no count or word of an answer is such; any other field is as it is
unfoldable pub plain_field : Word → List ℕ
plain_field w = shown_or binary32 (shown_or binary64 w (float_in binary64 w)) (float_in binary32 w)

unfoldable pub plain_fields : List Word → List ℕ
plain_fields [] = []
plain_fields (w ∷ ws) = plain_field w ++ plain_fields ws

-- ---- what a refusal means: document 01's table and 02's in a few words

pub data Row : Type 0 where
  row : ℕ → Word → Row

unfoldable pub table : List Row
table =
    row 1 (codes ": a bound or the default is not finite, or not min <= default <= max")
    ∷ row 2 (codes ": a value, time, time constant, duration or curve number is not finite")
    ∷ row 3 (codes ": a scheduled or cancel time is below 0")
    ∷ row 4 (codes ": time constant below 0, or duration not above 0")
    ∷ row 5 (codes ": exponential target equal to 0")
    ∷ row 6 (codes ": curve of fewer than 2 numbers")
    ∷ row 7 (codes ": 64 events already wait")
    ∷ row 8 (codes ": waiting curves and the new one exceed 4096 numbers")
    ∷ row 9 (codes ": block time, period or count out of range, or output or input of a wrong length")
    ∷ row 10 (codes ": block time below that of the last answered block")
    ∷ row 11 (codes ": inside a waiting curve, or with a waiting event inside")
    ∷ row 12 (codes ": the edition is neither 1 nor 2")
    ∷ row 14 (codes ": the curve store lent is not 4096 numbers long") ∷ []

unfoldable pub meaning_in : List Row → ℕ → List ℕ
meaning_in [] n = []
meaning_in (row m text ∷ rows) n = cond (eqb n m) text (meaning_in rows n)

unfoldable pub meaning_of : Option (ℕ × List Word) → List ℕ
meaning_of None = []
meaning_of (Some p) = meaning_in table p.0

-- of `refused NUMBER`, and nothing of any other line
unfoldable pub reason : List Word → List ℕ
reason [] = []
reason (w ∷ ws) = cond (same_word w (codes "refused")) (meaning_of (taken (count_in 99) ws)) []

-- ---- a line

unfoldable pub reply : List ℕ → List ℕ
reply line = plain_fields (parts line) ++ reason (words_of line)
