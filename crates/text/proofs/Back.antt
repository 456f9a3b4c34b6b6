-- Reading what was written gives the number back: one law over the base and the number of digits, then counts, and floats over their format.
-- Assumes nothing.
use mathlib.Core.Path.{◌≡◌, refl, sym, ◌∙◌, subst}
use mathlib.Core.Bool.{Bool, true, false, cond, ◌&&◌}
use mathlib.Core.List.{List, [], ◌∷◌, ◌++◌}
use Rattle.std.specs.Prelude.{Some}
use Prim.Native.Nat.{ℕ, zero, suc, ◌+◌, ◌*◌, ◌/◌, ◌%◌, ◌^◌, ◌≤◌, ◌<◌}
use native.Mathlib.Nat.{mod-lt, lt_of_lt_of_le, div-add-mod', div-lt_iff_lt-mul, pow-zero, pow-suc}
use native.Mathlib.Omega.{arith}
use lib.Dec.{T, ltb, lit≤}
use lib.Ieee.{Float, Format, binary32, binary64, top, fits, to_bits}
use lib.Ieee.Bits.{of_bits-to_bits, to_bits-lt}
use borrow.Author.Tests.{lt-ltb, eq-eqb, ltb-true, ltb-false}
use Rattle.text.specs.Digits.{digit_of, are_digits, value_from, number_from, number_in, bits_in, glyph_of, digits_of, places_of, decimal_of}
use Rattle.text.specs.Floats.{digits_for, float_of, float_in, float_text}
use Rattle.text.proofs.Reading.{at_least_one, figure, letter}
use Rattle.text.proofs.Writing.{length_digits}

glyph_digit : (d : ℕ) → d < 16 → digit_of (glyph_of d) ≡ d
unfolding glyph_of
glyph_digit d h = by_test (ltb d 10) refl
  where
    by_test : (b : Bool) → ltb d 10 ≡ b → digit_of (cond b (48 + d) (87 + d)) ≡ d
    by_test true e = sym (figure {c = 48 + d} (omega arith) (omega (arith, ltb-true d 10 e))) ∙ omega arith
    by_test false e = sym (letter {c = 87 + d} (omega (arith, ltb-false d 10 e)) (omega arith)) ∙ omega arith

-- ---- characters behind others

and_assoc : (p q r : Bool) → p && (q && r) ≡ (p && q) && r
and_assoc true q r = refl
and_assoc false q r = refl

module _ (b : ℕ) where
  pub digits_append : (xs ys : List ℕ) → are_digits b (xs ++ ys) ≡ are_digits b xs && are_digits b ys
  unfolding are_digits
  digits_append [] ys = refl
  digits_append (x ∷ xs) ys = rw (digits_append xs ys) (and_assoc (ltb (digit_of x) b) _ _)

  pub value_append : (v : ℕ) (xs ys : List ℕ) → value_from b v (xs ++ ys) ≡ value_from b (value_from b v xs) ys
  unfolding value_from
  value_append v [] ys = refl
  value_append v (x ∷ xs) ys = value_append (v * b + digit_of x) xs ys

-- ---- the law

module _ (b : ℕ) (one : 1 ≤ b) (most : b ≤ 16) where
  below_base : (n : ℕ) → digit_of (glyph_of (n % b)) ≡ n % b
  below_base n = glyph_digit (n % b) (lt_of_lt_of_le (mod-lt n one) most)

  written_digits : (k n : ℕ) → are_digits b (digits_of b k n) ≡ true
  unfolding digits_of are_digits
  written_digits zero n = refl
  written_digits (suc k) n = rw (digits_append, written_digits k (n / b), below_base n, lt-ltb (n % b) b (mod-lt n one))

  written_value : (k n : ℕ) → n < b ^ k → value_from b 0 (digits_of b k n) ≡ n
  unfolding digits_of value_from
  written_value zero n h = omega (arith, pow-zero b)
  written_value (suc k) n h =
      rw (value_append, written_value k (n / b) ((div-lt_iff_lt-mul {k = b} {x = n} {y = b ^ k} one).1 (subst (λ (m : ℕ). n < m) (pow-suc b k) h)), below_base n) (div-add-mod' n b)

  pub number_back : (k n : ℕ) → 0 < k → n < b ^ k → n < 2 ^ 64 → number_in b (digits_of b k n) ≡ Some n
  unfolding number_from
  number_back k n some-digit h small =
      at_least_one b (digits_of b k n) (rw length_digits some-digit) ∙ rw (written_digits k n, written_value k n h, lt-ltb n (2 ^ 64) small)

-- ---- counts

places_enough : (j n : ℕ) → n < 10 ^ suc j → n < 10 ^ places_of j n
unfolding places_of
places_enough zero n h = h
places_enough (suc j) n h = by_test (places_enough j (n / 10) ((div-lt_iff_lt-mul {k = 10} {x = n} {y = 10 ^ suc j} (omega arith)).1 (subst (λ (m : ℕ). n < m) (pow-suc 10 (suc j)) h))) (ltb n 10) refl
  where
    by_test : n / 10 < 10 ^ places_of j (n / 10) → (b : Bool) → ltb n 10 ≡ b → n < 10 ^ cond b 1 (suc (places_of j (n / 10)))
    by_test rest true e = ltb-true n 10 e
    by_test rest false e = rw (pow-suc 10 (places_of j (n / 10))) ((div-lt_iff_lt-mul {k = 10} {x = n} {y = 10 ^ places_of j (n / 10)} (omega arith)).0 rest)

places_some : (j n : ℕ) → 0 < places_of j n
unfolding places_of
places_some zero n = omega arith
places_some (suc j) n = by_test (ltb n 10)
  where
    by_test : (b : Bool) → 0 < cond b 1 (suc (places_of j (n / 10)))
    by_test true = omega arith
    by_test false = omega arith

pub count_back : (n : ℕ) → n < 2 ^ 64 → number_in 10 (decimal_of n) ≡ Some n
unfolding decimal_of
count_back n small =
    number_back 10 (omega arith) (omega arith) (places_of 19 n) n (places_some 19 n) (places_enough 19 n (lt_of_lt_of_le small (lit≤ tt))) small

-- ---- floats

pub bits_back : (k n : ℕ) → 0 < k → n < 16 ^ k → n < 2 ^ 64 → bits_in k (digits_of 16 k n) ≡ Some n
unfolding bits_in
bits_back k n some-digit h small = rw (length_digits, eq-eqb k k refl, number_back 16 (omega arith) (omega arith) k n some-digit h small)

-- as many digits as the format's patterns take
wide_enough : (f : Format) (n : ℕ) → n < 2 * top f → (0 < digits_for f) × (n < 16 ^ digits_for f) × (n < 2 ^ 64)
wide_enough binary32 n h = (omega arith, h, lt_of_lt_of_le h (lit≤ tt))
wide_enough binary64 n h = (omega arith, h, h)

-- a float of either format, a NaN too
pub float_back : (f : Format) (x : Float) → T (fits f x) → float_in f (float_text f x) ≡ Some x
unfolding float_in float_of float_text
float_back f x fit =
    let w = wide_enough f (to_bits f x) (to_bits-lt f x fit) in
    rw (bits_back (digits_for f) (to_bits f x) w.0 w.1 w.2, of_bits-to_bits f x fit)
