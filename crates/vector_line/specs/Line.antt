-- What a line of the list says, and when it holds. Definitions only. Assumes nothing.
use Rattle.std.specs.Prelude.{Bool, false, cond, List, ℕ, zero, suc, ◌+◌, ◌*◌, ◌%◌, ◌^◌, eqb, ltb, get_or, Float}
use Rattle.std.specs.Float.{Format, binary32, binary64}
use Rattle.std.specs.Float.Ieee.{of_bits, to_bits}
use Rattle.rules.specs.Numbers.{narrowed, fused, wide}

-- a hexadecimal digit's character; another gives some digit
abbrev pub digit_of : ℕ → ℕ
digit_of c = cond (ltb c 97) (c % 16) ((c % 16 + 9) % 16)

-- v, then the k digits from the place i on
unfoldable pub digits_from : List ℕ → ℕ → ℕ → ℕ → ℕ
digits_from s zero i v = v
digits_from s (suc k) i v = digits_from s k (suc i) (v * 16 + digit_of (get_or s i 0))

unfoldable pub number_at : List ℕ → ℕ → ℕ
unfolding digits_from
number_at s i = digits_from s 16 i 0

-- the same float: by the pattern, of which a NaN has one
unfoldable pub same : Format → Float → Float → Bool
same f x y = eqb (to_bits f x) (to_bits f y)

abbrev float32 : ℕ → Float
float32 b = of_bits binary32 (b % 2 ^ 32)

-- w is what the operands give
unfoldable pub narrows_to : ℕ → ℕ → Bool
unfolding same
narrows_to a w = same binary32 (narrowed (of_bits binary64 a)) (float32 w)

unfoldable pub fuses32_to : ℕ → ℕ → ℕ → ℕ → Bool
unfolding same
fuses32_to a b c w = same binary32 (fused binary32 (float32 a) (float32 b) (float32 c)) (float32 w)

unfoldable pub fuses64_to : ℕ → ℕ → ℕ → ℕ → Bool
unfolding same
fuses64_to a b c w = cond (ltb 1024 a) false (same binary64 (fused binary64 (wide a) (of_bits binary64 b) (of_bits binary64 c)) (of_bits binary64 w))

-- by the line's letter: n, f or d
unfoldable pub holds : List ℕ → Bool
unfolding number_at narrows_to fuses32_to fuses64_to
holds s =
    cond (eqb (get_or s 0 0) 110) (narrows_to (number_at s 2) (number_at s 53))
    (cond (eqb (get_or s 0 0) 102) (fuses32_to (number_at s 2) (number_at s 19) (number_at s 36) (number_at s 53))
    (cond (eqb (get_or s 0 0) 100) (fuses64_to (number_at s 2) (number_at s 19) (number_at s 36) (number_at s 53)) false))
