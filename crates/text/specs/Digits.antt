-- Numbers as digits, read and written: decimal counts, and hexadecimal with lower-case letters.
use Rattle.std.specs.Prelude.{Bool, true, cond, ◌&&◌, List, [], ◌∷◌, ◌++◌, ℕ, zero, suc, ◌+◌, ◌-◌, ◌*◌, ◌/◌, ◌%◌, ◌^◌, leb, ltb, eqb, length, Option, None, Some}

-- ---- read

-- what a character counts as a digit, `0` to `9` and `a` to `f`; 16 for one that is none
unfoldable pub digit_of : ℕ → ℕ
digit_of c = cond (leb 48 c && leb c 57) (c - 48) (cond (leb 97 c && leb c 102) (c - 87) 16)

-- every character is a digit of base b
unfoldable pub are_digits : ℕ → List ℕ → Bool
are_digits b [] = true
are_digits b (c ∷ cs) = ltb (digit_of c) b && are_digits b cs

-- what digits of base b count, behind digits that count v
unfoldable pub value_from : ℕ → ℕ → List ℕ → ℕ
value_from b v [] = v
value_from b v (c ∷ cs) = value_from b (v * b + digit_of c) cs

-- the same, where there is no other character and it is at most 2 ^ 64 - 1
unfoldable pub number_from : ℕ → ℕ → List ℕ → Option ℕ
number_from b v cs = cond (are_digits b cs && ltb (value_from b v cs) (2 ^ 64)) (Some (value_from b v cs)) None

-- a word as a number in base b: at least one digit
unfoldable pub number_in : ℕ → List ℕ → Option ℕ
number_in b [] = None
number_in b (c ∷ cs) = number_from b 0 (c ∷ cs)

-- a word as n hexadecimal digits
unfoldable pub bits_in : ℕ → List ℕ → Option ℕ
bits_in n cs = cond (eqb (length cs) n) (number_in 16 cs) None

-- ---- written

-- the character of a digit below 16
unfoldable pub glyph_of : ℕ → ℕ
glyph_of d = cond (ltb d 10) (48 + d) (87 + d)

-- the last k digits of n in base b, the highest first
unfoldable pub digits_of : ℕ → ℕ → ℕ → List ℕ
digits_of b zero n = []
digits_of b (suc k) n = digits_of b k (n / b) ++ (glyph_of (n % b) ∷ [])

-- how many decimal digits n has, if no more than k behind the first
unfoldable pub places_of : ℕ → ℕ → ℕ
places_of zero n = 1
places_of (suc k) n = let more = places_of k (n / 10) in cond (ltb n 10) 1 (suc more)

-- a count below 2 ^ 64, which has at most 20 decimal digits
unfoldable pub decimal_of : ℕ → List ℕ
decimal_of n = digits_of 10 (places_of 19 n) n
