-- Digits read from the front, one at a time: what the next one makes of the number. Assumes nothing.
use mathlib.Core.Path.{◌≡◌, refl, sym, ap, ◌∙◌, subst}
use mathlib.Core.Bool.{Bool, true, false, cond, ◌&&◌}
use mathlib.Core.List.{List, [], ◌∷◌}
use Rattle.std.specs.Prelude.{Option, None, Some}
use Prim.Native.Nat.{ℕ, suc, ◌+◌, ◌-◌, ◌*◌, ◌/◌, ◌^◌, ◌≤◌, ◌<◌}
use native.Mathlib.Nat.{mod-eq_of_lt, le_refl, le_trans, lt_of_lt_of_le, le-add_right, add-mul, mul-le-mul_left, mul-le-mul_right, mul-one, mul_comm, mul_assoc, pow-zero, pow-suc, le-div_iff_mul-le, div-lt_iff_lt-mul}
use native.Mathlib.Numerals.{add-one, lt-add-one}
use native.Mathlib.Omega.{arith}
use lib.Dec.{T, ltb, eqb}
use lib.Ieee.{Format, binary32, binary64, of_bits}
use lib.ListN.{length, get_or, drop}
use lib.Seq.{drop-cons}
use borrow.Author.Tests.{lt-ltb, le-ltb, le-leb, lt-leb, ltb-true, eqb-true}
use Rattle.text.specs.Digits.{digit_of, are_digits, value_from, number_from, number_in, bits_in}
use Rattle.text.specs.Floats.{digits_for, of_word, float_of}

pub at_least_one : (b : ℕ) (cs : List ℕ) → 0 < length cs → number_in b cs ≡ number_from b 0 cs
unfolding number_in
at_least_one b [] h = absurd (omega arith)
at_least_one b (c ∷ cs) h = refl

pub no_character : (b : ℕ) (cs : List ℕ) → length cs ≡ 0 → number_in b cs ≡ None
unfolding number_in
no_character b [] h = refl
no_character b (c ∷ cs) h = absurd (omega arith)

pub all_read : (b v : ℕ) → v < 2 ^ 64 → number_from b v [] ≡ Some v
unfolding number_from are_digits value_from
all_read b v h = rw (lt-ltb v (2 ^ 64) h)

pub a_digit : (b v c : ℕ) (cs : List ℕ) → digit_of c < b → number_from b v (c ∷ cs) ≡ number_from b (v * b + digit_of c) cs
unfolding number_from are_digits value_from
a_digit b v c cs h = rw (lt-ltb (digit_of c) b h)

pub no_digit : (b v c : ℕ) (cs : List ℕ) → b ≤ digit_of c → number_from b v (c ∷ cs) ≡ None
unfolding number_from are_digits
no_digit b v c cs h = rw (le-ltb (digit_of c) b h)

-- more digits make no number smaller
pub grows : (b : ℕ) → 1 ≤ b → (v : ℕ) (cs : List ℕ) → v ≤ value_from b v cs
unfolding value_from
grows b one v [] = le_refl v
grows b one v (c ∷ cs) =
    le_trans (subst (λ (k : ℕ). k ≤ v * b) (mul-one v) (mul-le-mul_left v one)) (le_trans (le-add_right (v * b) (digit_of c)) (grows b one (v * b + digit_of c) cs))

and_false : (p : Bool) → p && false ≡ false
and_false true = refl
and_false false = refl

pub too_large : (b v : ℕ) (cs : List ℕ) → 1 ≤ b → 2 ^ 64 ≤ v → number_from b v cs ≡ None
unfolding number_from
too_large b v cs one h = rw (le-ltb (value_from b v cs) (2 ^ 64) (le_trans h (grows b one v cs)), and_false)

-- the test that is made before one more digit is taken
pub fits_still : (b v d : ℕ) → 1 ≤ b → d ≤ 15 → v ≤ (2 ^ 64 - 1 - d) / b → v * b + d < 2 ^ 64
fits_still b v d one small h = omega (arith, (le-div_iff_mul-le {k = b} {x = v} {y = 2 ^ 64 - 1 - d} one).0 h)

pub fits_no_more : (b v d : ℕ) → 1 ≤ b → d ≤ 15 → (2 ^ 64 - 1 - d) / b < v → 2 ^ 64 ≤ v * b + d
fits_no_more b v d one small h = omega (arith, (div-lt_iff_lt-mul {k = b} {x = 2 ^ 64 - 1 - d} {y = v} one).0 h)

-- ---- a character, by the range that it lies in

module _ {c : ℕ} where
  pub figure : 48 ≤ c → c ≤ 57 → c - 48 ≡ digit_of c
  unfolding digit_of
  figure low high = rw (le-leb 48 c low, le-leb c 57 high)

  pub letter : 97 ≤ c → c ≤ 102 → c - 87 ≡ digit_of c
  unfolding digit_of
  letter low high = rw (le-leb 48 c (omega arith), lt-leb c 57 (omega arith), le-leb 97 c low, le-leb c 102 high)

  pub below : c < 48 → 16 ≡ digit_of c
  unfolding digit_of
  below h = rw (lt-leb 48 c h, lt-leb 97 c (omega arith))

  pub between : 57 < c → c < 97 → 16 ≡ digit_of c
  unfolding digit_of
  between low high = rw (le-leb 48 c (omega arith), lt-leb c 57 low, lt-leb 97 c high)

  pub above : 102 < c → 16 ≡ digit_of c
  unfolding digit_of
  above h = rw (le-leb 48 c (omega arith), lt-leb c 57 (omega arith), le-leb 97 c (omega arith), lt-leb c 102 h)

-- ---- a turn of the loop: d is the digit at place i of the word, and v what the digits before it count

module _ (b v : ℕ) (w : List ℕ) (i d : ℕ) (inside : i < length w) (e : d ≡ digit_of (get_or w i 0)) where
  pub turn : d < b → number_from b v (drop i w) ≡ number_from b (v * b + d) (drop (i + 1) w)
  turn h = rw (drop-cons w i 0 inside, a_digit b v (get_or w i 0) (drop (suc i) w) (rw e at h), add-one i, e)

  pub stop : b ≤ d → number_from b v (drop i w) ≡ None
  stop h = rw (drop-cons w i 0 inside, no_digit b v (get_or w i 0) (drop (suc i) w) (rw e at h))

-- ---- what a number that was read is below

pub and_true : (p q : Bool) → p && q ≡ true → (p ≡ true) × (q ≡ true)
and_true true q e = (refl, e)
and_true false q e = absurd (subst T (sym e) tt)

unread_is : {v : ℕ} → None ≡ Some v → ⊥
unread_is e = let z : ◌≡◌ {A = ℕ} 0 1 = cc in omega arith

-- a test that led to a number was passed
if_read : (p : Bool) (x : Option ℕ) (v : ℕ) → cond p x None ≡ Some v → (p ≡ true) × (x ≡ Some v)
if_read true x v e = (refl, e)
if_read false x v e = absurd (unread_is e)

module _ (b : ℕ) where
  value_below : (v : ℕ) (cs : List ℕ) → are_digits b cs ≡ true → value_from b v cs < (v + 1) * b ^ length cs
  unfolding are_digits value_from
  value_below v [] e = rw (pow-zero b, mul-one (v + 1)) (lt-add-one v)
  value_below v (c ∷ cs) e =
      let d = and_true _ _ e in
      let below : v * b + digit_of c + 1 ≤ (v + 1) * b = omega (arith, add-mul v 1 b, ltb-true (digit_of c) b d.0) in
      lt_of_lt_of_le (value_below (v * b + digit_of c) cs d.1)
      (rw (pow-suc b (length cs), mul_comm (b ^ length cs) b, ← mul_assoc (v + 1) b (b ^ length cs)) (mul-le-mul_right (b ^ length cs) below))

-- a word of n digits
pub bits_below : (n : ℕ) (cs : List ℕ) {v : ℕ} → bits_in n cs ≡ Some v → v < 16 ^ n
unfolding bits_in number_in number_from
bits_below n [] {v} e = absurd (unread_is (if_read (eqb 0 n) None v e).1)
bits_below n (c ∷ cs) {v} e =
    let word = if_read (eqb (length (c ∷ cs)) n) _ v e in
    let read = if_read (are_digits 16 (c ∷ cs) && ltb (value_from 16 0 (c ∷ cs)) (2 ^ 64)) _ v word.1 in
    let digits = and_true (are_digits 16 (c ∷ cs)) _ read.0 in
    let is : value_from 16 0 (c ∷ cs) ≡ v = cc in
    subst (λ (k : ℕ). k < 16 ^ n) is
    (subst (λ (k : ℕ). value_from 16 0 (c ∷ cs) < 16 ^ k) (eqb-true _ n word.0) (omega (arith, value_below 16 0 (c ∷ cs) digits.0)))

-- a number that was read is its own low bits
low_bits : (f : Format) (cs : List ℕ) {v : ℕ} → bits_in (digits_for f) cs ≡ Some v → of_word f v ≡ of_bits f v
low_bits binary32 cs e = ap (of_bits binary32) (mod-eq_of_lt (bits_below 8 cs e))
low_bits binary64 cs e = refl

-- a float of k digits, and none
module _ (f : Format) (k : ℕ) (cs : List ℕ) (e : k ≡ digits_for f) where
  pub unread : None ≡ bits_in k cs → None ≡ float_of f (bits_in (digits_for f) cs)
  unfolding float_of
  unread n = ap (float_of f) n ∙ ap (λ (d : ℕ). float_of f (bits_in d cs)) e

  pub read : {v : ℕ} → Some v ≡ bits_in k cs → Some (of_word f v) ≡ float_of f (bits_in (digits_for f) cs)
  unfolding float_of
  read {v} n =
      let is : Some v ≡ bits_in (digits_for f) cs = n ∙ ap (λ (d : ℕ). bits_in d cs) e in
      ap Some (low_bits f cs (sym is)) ∙ ap (float_of f) is
