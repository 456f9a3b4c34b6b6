-- The text of a float: its places behind the point, and how long it is. Assumes nothing.
use Rattle.std.proofs.Common.{Option, None, Some, ◌≡◌, ℕ, zero, suc, ◌-◌, ◌/◌, ◌%◌, ◌<◌, ◌≤◌, Bool, true, false, cond, eqb, List, [], ◌∷◌, ◌++◌, length, sym, refl, subst, add-zero, arith, length-append, eq-eqb, ne_eqb}
use lib.Ieee.{Float, Format, binary32, binary64}
use Rattle.text.specs.Digits.{digits_of, decimal_of}
use Rattle.text.specs.Floats.{digits_for, float_text}
use Rattle.text.specs.Put.{Put}
use Rattle.text.proofs.Writing.{put_none, length_digits, length_float, length_decimal}
use Rattle.decimal.specs.declared.write.Printed.{Printed}
use Rattle.decimal.specs.Shown.{shown, sign_text, places_text, shown_text, text_of, plain_text}

pub put-nothing : (l : List ℕ) (at : ℕ) → Put l at [] l at
put-nothing l at = record { bytes = sym (put_none l at); place = sym (add-zero at) }

pub put_from : {l m xs l' : List ℕ} {at next : ℕ} → l ≡ m → Put l at xs l' next → Put m at xs l' next
put_from {l} {m} {xs} {l'} {at} {next} e p = subst (λ (o : List ℕ). Put o at xs l' next) e p

-- ---- places behind the point

pub no_places : (k n : ℕ) → k ≤ 0 → places_text k n ≡ []
unfolding places_text
no_places zero n h = refl
no_places (suc k) n h = absurd (omega arith)

module _ (k n : ℕ) (some-place : 0 < k) where
  -- a zero at the end is left out
  pub fewer_places : n % 10 ≡ 0 → places_text k n ≡ places_text (k - 1) (n / 10)
  unfolding places_text
  fewer_places e = by_places k some-place
    where
      by_places : (k : ℕ) → 0 < k → places_text k n ≡ places_text (k - 1) (n / 10)
      by_places zero p = absurd (omega arith)
      by_places (suc j) p = let less : suc j - 1 ≡ j = omega arith in rw (eq-eqb (n % 10) 0 e, less)

  pub all_places : (n % 10 ≡ 0 → ⊥) → places_text k n ≡ (46 ∷ []) ++ digits_of 10 k n
  unfolding places_text
  all_places e = by_places k some-place
    where
      by_places : (k : ℕ) → 0 < k → places_text k n ≡ 46 ∷ digits_of 10 k n
      by_places zero p = absurd (omega arith)
      by_places (suc j) p = rw (ne_eqb (n % 10) 0 e)

-- ---- lengths

pub length_sign : (minus : Bool) → length (sign_text minus) ≤ 1
unfolding sign_text
length_sign true = omega arith
length_sign false = omega arith

length_places : (k n : ℕ) → length (places_text k n) ≤ suc k
unfolding places_text
length_places zero n = omega arith
length_places (suc k) n = by_test (length_places k (n / 10)) (eqb (n % 10) 0)
  where
    by_test : length (places_text k (n / 10)) ≤ suc k → (b : Bool) → length (cond b (places_text k (n / 10)) (46 ∷ digits_of 10 (suc k) n)) ≤ suc (suc k)
    by_test rest true = omega arith
    by_test rest false = omega (arith, length_digits 10 (suc k) n)

length-shown : (p : Printed) → length (shown_text p) ≤ 28
unfolding shown_text
length-shown Printed.NotANumber = omega arith
length-shown (Printed.Infinite s) = omega (arith, length-append (sign_text s) (105 ∷ 110 ∷ 102 ∷ []), length_sign s)
length-shown (Printed.Decimal s whole n) =
    omega (arith, length-append (sign_text s) (decimal_of whole ++ places_text 6 n), length-append (decimal_of whole) (places_text 6 n), length_sign s, length_decimal whole, length_places 6 n)

pub digits_short : (f : Format) → digits_for f ≤ 16
digits_short binary32 = omega arith
digits_short binary64 = omega arith

-- what a caller leaves room for
pub length_plain : (f : Format) (x : Float) → length (plain_text f x) ≤ 28
unfolding plain_text text_of
length_plain f x = by_kind (shown x)
  where
    bits : (f : Format) → suc (length (float_text f x)) ≤ 28
    bits binary32 = omega (arith, length_float binary32 x)
    bits binary64 = omega (arith, length_float binary64 x)

    by_kind : (p : Option Printed) → length (text_of f x p) ≤ 28
    by_kind (Some s) = length-shown s
    by_kind None = bits f
