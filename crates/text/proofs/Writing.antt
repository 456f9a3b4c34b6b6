-- Writing into a list: at a place, and one more behind or before what is still to be written. Assumes nothing.
use mathlib.Core.Path.{◌≡◌, refl, sym, ◌∙◌, subst}
use mathlib.Core.Bool.{Bool, true, false, cond}
use mathlib.Core.List.{List, [], ◌∷◌, ◌++◌, append_assoc}
use Prim.Native.Nat.{ℕ, zero, suc, ◌+◌, ◌-◌, ◌*◌, ◌/◌, ◌%◌, ◌^◌, ◌≤◌, ◌<◌}
use native.Mathlib.Nat.{add-zero, add-suc, suc-add, add_assoc, pow-suc, one-le-pow}
use native.Mathlib.Numerals.{add-one}
use native.Mathlib.Omega.{arith}
use lib.Dec.{ltb}
use lib.Ieee.{Float, Format, to_bits}
use lib.ListN.{length, get_or, take, drop, set, length-append, length-take, length-drop, take-append-drop}
use lib.Seq.{append_snoc, lt-length-set, drop-cons, get_or-set_same, take-set-le, drop-set-lt, take-suc-set, take_at, drop_at, drop-drop}
use borrow.Author.Tests.{lt-ltb, le-ltb}
use Rattle.text.specs.Put.{put, Put}
use Rattle.text.specs.Digits.{glyph_of, digits_of, places_of, decimal_of}
use Rattle.text.specs.Floats.{digits_for, float_text}

module _ {A : Type 0} where
  pub length-put : (l : List A) (at : ℕ) (xs : List A) → at + length xs ≤ length l → length (put l at xs) ≡ length l
  unfolding put
  length-put l at xs h = simp (length-append, length-take, length-drop) (omega arith)

  put_is : (l : List A) (at : ℕ) (xs : List A) → put l at xs ≡ take at l ++ (xs ++ drop (at + length xs) l)
  unfolding put
  put_is l at xs = refl

  -- nothing is written
  pub put_none : (l : List A) (at : ℕ) → put l at [] ≡ l
  unfolding put
  put_none l at = rw (add-zero at) (take-append-drop at l)

  -- the first element is written already
  pub put_first : (l : List A) (at : ℕ) (x : A) (xs : List A) → at < length l → put (set l at x) (at + 1) xs ≡ put l at (x ∷ xs)
  unfolding put
  put_first l at x xs h =
      rw (add-one at, take-suc-set l at x h, append_snoc, drop-set-lt (suc at + length xs) l at x (omega arith), add-suc at (length xs), suc-add at (length xs))

  -- a turn of a loop that copies a word: its next element is written
  pub put_next : (out : List A) (at i : ℕ) (word : List A) (d : A) → i < length word → at + i < length out
      → put out (at + i) (drop i word) ≡ put (set out (at + i) (get_or word i d)) (at + (i + 1)) (drop (i + 1) word)
  put_next out at i word d inside room =
      rw (drop-cons word i d inside, ← add_assoc at i 1, put_first out (at + i) (get_or word i d) (drop (i + 1) word) room, add-one i)

  -- the last element is written already
  pub put_last : (l : List A) (at : ℕ) (xs : List A) (x : A) → at + length xs < length l → put (set l (at + length xs) x) at xs ≡ put l at (xs ++ (x ∷ []))
  unfolding put
  put_last l at xs x h =
      rw (take-set-le at l (at + length xs) x (omega arith), drop-cons (set l (at + length xs) x) (at + length xs) x (lt-length-set l (at + length xs) x h), get_or-set_same l (at + length xs) x x h, drop-set-lt (suc (at + length xs)) l (at + length xs) x (omega arith), append_snoc, length-append, add-one, add-suc)

  module _ (l : List A) (at : ℕ) (xs : List A) (h : at + length xs ≤ length l) where
    -- up to the place behind
    pub put_front : take (at + length xs) (put l at xs) ≡ take at l ++ xs
    unfolding put
    put_front = rw (← append_assoc) (take_at (take at l ++ xs) _ (at + length xs) (simp (length-append, length-take) (omega arith)))

    pub put-behind : drop (at + length xs) (put l at xs) ≡ drop (at + length xs) l
    unfolding put
    put-behind = rw (← append_assoc) (drop_at (take at l ++ xs) _ (at + length xs) (simp (length-append, length-take) (omega arith)))

    -- what is written behind what was written
    pub put-put : (ys : List A) → put (put l at xs) (at + length xs) ys ≡ put l at (xs ++ ys)
    put-put ys =
        rw (put_is (put l at xs) (at + length xs) ys, put_is l at (xs ++ ys), put_front, ← drop-drop (length ys) (at + length xs) (put l at xs), put-behind, drop-drop, append_assoc, append_assoc, length-append, add_assoc)

pub put_same : {l : List ℕ} {at : ℕ} {xs ys l' : List ℕ} {next : ℕ} → xs ≡ ys → Put l at xs l' next → Put l at ys l' next
put_same {l} {at} {xs} {ys} {l'} {next} e p = subst (λ (zs : List ℕ). Put l at zs l' next) e p

-- ---- digits, from the back to the front

pub length_digits : (b k n : ℕ) → length (digits_of b k n) ≡ k
unfolding digits_of
length_digits b zero n = refl
length_digits b (suc k) n = rw (length-append, length_digits b k (n / b), add-one)

-- a turn of the loop: with the last digit written, one digit fewer is left
pub last_digit : (out : List ℕ) (at b i left g : ℕ) → 0 < i → at + (i - 1) < length out → g ≡ glyph_of (left % b)
    → put out at (digits_of b i left) ≡ put (set out (at + (i - 1)) g) at (digits_of b (i - 1) (left / b))
unfolding digits_of
last_digit out at b zero left g some h e = absurd (omega arith)
last_digit out at b (suc j) left g some h e =
    let ds : List ℕ = digits_of b j (left / b) in
    let long : length ds ≡ j = length_digits b j (left / b) in
    let j-is : suc j - 1 ≡ j = omega arith in
    rw (← e, j-is, ← put_last out at ds g (omega arith), long)

pub no_digit_left : (out : List ℕ) (at b i left : ℕ) → i ≤ 0 → put out at (digits_of b i left) ≡ out
unfolding digits_of
no_digit_left out at b zero left h = put_none out at
no_digit_left out at b (suc i) left h = absurd (omega arith)

-- ---- how many decimal digits

last_place : (j left : ℕ) → left < 10 → places_of j left ≡ 1
unfolding places_of
last_place zero left h = refl
last_place (suc j) left h = rw (lt-ltb left 10 h)

-- by the power of 10 that it reaches
pub places_is : (k j n : ℕ) → k ≤ j → 10 ^ k ≤ n → n < 10 * 10 ^ k → places_of j n ≡ k + 1
unfolding places_of
places_is zero j n few low high = last_place j n high
places_is (suc k) zero n few low high = absurd (omega arith)
places_is (suc k) (suc j) n few low high =
    let is : 10 ^ suc k ≡ 10 ^ k * 10 = pow-suc 10 k in
    let some : 1 ≤ 10 ^ k = one-le-pow k 10 (omega arith) in
    rw (le-ltb n 10 (omega (arith, is, low, some))) (omega (arith, places_is k j (n / 10) (omega arith) (omega (arith, is, low)) (omega (arith, is, high))))

pub no_places : (j n : ℕ) → n ≡ 0 → places_of j n ≡ 1
no_places j n e = last_place j n (omega arith)

-- ---- one thing written behind another

pub put_then : {l l₁ l₂ xs ys : List ℕ} {at p₁ p₂ : ℕ} → Put l at xs l₁ p₁ → Put l₁ p₁ ys l₂ p₂ → p₁ ≤ length l → Put l at (xs ++ ys) l₂ p₂
put_then {l} {l₁} {l₂} {xs} {ys} {at} {p₁} {p₂} p q h =
    let second : l₂ ≡ put (put l at xs) (at + length xs) ys = q.bytes ∙ rw (p.bytes, p.place) in
    record { bytes = second ∙ put-put l at xs (subst (λ (k : ℕ). k ≤ length l) p.place h) ys; place = q.place ∙ rw (p.place, length-append, add_assoc) }

pub length_float : (f : Format) (x : Float) → length (float_text f x) ≡ digits_for f
unfolding float_text
length_float f x = length_digits 16 (digits_for f) (to_bits f x)

few_places : (k n : ℕ) → places_of k n ≤ suc k
unfolding places_of
few_places zero n = omega arith
few_places (suc k) n = by_test (few_places k (n / 10)) (ltb n 10)
  where
    by_test : places_of k (n / 10) ≤ suc k → (b : Bool) → cond b 1 (suc (places_of k (n / 10))) ≤ suc (suc k)
    by_test rest true = omega arith
    by_test rest false = omega arith

pub length_decimal : (n : ℕ) → length (decimal_of n) ≤ 20
unfolding decimal_of
length_decimal n = rw length_digits (few_places 19 n)

pub put-nothing : (l : List ℕ) (at : ℕ) → Put l at [] l at
put-nothing l at = record { bytes = sym (put_none l at); place = sym (add-zero at) }
