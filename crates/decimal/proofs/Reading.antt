-- A word of a decimal read from the front: its sign, its digits up to a ceiling, and its tens. Assumes nothing.
use Rattle.std.proofs.Common.{◌≡◌, ℕ, suc, ◌+◌, ◌-◌, ◌^◌, ◌<◌, ◌≤◌, Bool, true, false, cond, ◌&&◌, ◌||◌, eqb, ltb, leb, List, [], ◌∷◌, ◌++◌, length, get_or, take, drop, sym, refl, ap, ◌∙◌, lt_of_lt_of_le, zero-add, arith, lit<, length-append, length-drop, drop_of_length-le, length-take-le, take-take, ltb-false, eq-eqb, ne_eqb, le-leb, leb-false, leb-true}
use Rattle.std.specs.Prelude.{Option, None, Some}
use lib.Seq.{take-length}
use lib.Ieee.{Float, Format, binary64}
use borrow.Author.Rules.{part_to_end}
use borrow.Author.Tests.{lt-leb}
use Rattle.scan.specs.Bytes.{index_of, index_after, slice}
use Rattle.text.specs.Digits.{are_digits, value_from, number_from, number_in}
use Rattle.text.specs.Floats.{float_in}
use Rattle.text.specs.Words.{up_to, count_in}
use Rattle.text.proofs.Reading.{grows, at_least_one}
use Rattle.text.proofs.Back.{digits_append, value_append}
use Rattle.decimal.specs.declared.read.Tens.{Tens}
use Rattle.decimal.specs.Decimals.{is_minus, sign_length, behind_sign, before, digits_part, whole_digits, fraction_digits, digits_in, tens_of, tens_in, scaled, unsigned_in, decimal_in, named_in, held, plain_in}

-- ---- the sign: whether it is a minus, its length, and that it is within the word

abbrev Sign : List ℕ → Bool → ℕ → Type 0
Sign w minus len = (minus ≡ is_minus w) × (len ≡ sign_length w) × (len ≤ length w)

pub no_character : (w : List ℕ) → length w ≡ 0 → Sign w false 0
unfolding is_minus sign_length
no_character [] h = (refl, refl, omega arith)
no_character (c ∷ cs) h = absurd (omega arith)

-- by the first character
first : (w : List ℕ) → (length w ≡ 0 → ⊥) → (c : ℕ) → get_or w 0 0 ≡ c → Sign w (eqb c 45) (cond (eqb c 45 || eqb c 43) 1 0)
unfolding is_minus sign_length
first [] n c e = absurd (n refl)
first (d ∷ ds) n c e = (ap (λ (k : ℕ). eqb k 45) (sym e), ap (λ (k : ℕ). cond (eqb k 45 || eqb k 43) 1 0) (sym e), by_test (eqb c 45 || eqb c 43))
  where
    by_test : (b : Bool) → cond b 1 0 ≤ suc (length ds)
    by_test true = omega arith
    by_test false = omega arith

module _ (w : List ℕ) (some_character : length w ≡ 0 → ⊥) where
  pub a_minus : get_or w 0 0 ≡ 45 → Sign w true 1
  a_minus e = first w some_character 45 e

  pub a_plus : get_or w 0 0 ≡ 43 → Sign w false 1
  a_plus e = first w some_character 43 e

  pub no_sign : (get_or w 0 0 ≡ 45 → ⊥) → (get_or w 0 0 ≡ 43 → ⊥) → Sign w false 0
  no_sign m p = rw (ne_eqb (get_or w 0 0) 45 m, ne_eqb (get_or w 0 0) 43 p) at (first w some_character (get_or w 0 0) refl)

-- ---- digits up to a ceiling

module _ (b most : ℕ) (one : 1 ≤ b) (low : most < 2 ^ 64) where
  -- one test for both ceilings
  limited : (v : ℕ) (cs : List ℕ) → up_to most (number_from b v cs) ≡ cond (are_digits b cs && leb (value_from b v cs) most) (Some (value_from b v cs)) None
  unfolding number_from up_to
  limited v cs = by_test (are_digits b cs) (leb (value_from b v cs) most) (ltb (value_from b v cs) (2 ^ 64)) refl refl
    where
      x : ℕ
      x = value_from b v cs

      by_test : (p q r : Bool) → leb x most ≡ q → ltb x (2 ^ 64) ≡ r → up_to most (cond (p && r) (Some x) None) ≡ cond (p && q) (Some x) None
      by_test false q r e f = refl
      by_test true q true e f = rw e
      by_test true true false e f = absurd (omega (arith, leb-true x most e, ltb-false x (2 ^ 64) f))
      by_test true false false e f = refl

  pub over : (v : ℕ) (cs : List ℕ) → most < v → up_to most (number_from b v cs) ≡ None
  over v cs h = limited v cs ∙ by_digits (are_digits b cs)
    where
      by_digits : (p : Bool) → cond (p && leb (value_from b v cs) most) (Some (value_from b v cs)) None ≡ None
      by_digits true = rw (lt-leb (value_from b v cs) most (lt_of_lt_of_le h (grows b one v cs)))
      by_digits false = refl

  pub all-counted : (v : ℕ) → v ≤ most → up_to most (number_from b v []) ≡ Some v
  unfolding are_digits value_from
  all-counted v h = limited v [] ∙ rw (le-leb v most h)

  module _ (v : ℕ) (xs ys : List ℕ) where
    both : up_to most (number_from b v (xs ++ ys)) ≡ cond ((are_digits b xs && are_digits b ys) && leb (value_from b (value_from b v xs) ys) most) (Some (value_from b (value_from b v xs) ys)) None
    both = limited v (xs ++ ys) ∙ rw (digits_append b xs ys, value_append b v xs ys)

    -- with the first digits counted
    pub behind : (x : ℕ) → up_to most (number_from b v xs) ≡ Some x → up_to most (number_from b v (xs ++ ys)) ≡ up_to most (number_from b x ys)
    behind x e = both ∙ by_tests (are_digits b xs) (leb (value_from b v xs) most) refl refl (sym (limited v xs) ∙ e)
      where
        by_tests : (p q : Bool) → are_digits b xs ≡ p → leb (value_from b v xs) most ≡ q → cond (p && q) (Some (value_from b v xs)) None ≡ Some x
            → cond ((are_digits b xs && are_digits b ys) && leb (value_from b (value_from b v xs) ys) most) (Some (value_from b (value_from b v xs) ys)) None ≡ up_to most (number_from b x ys)
        by_tests true true i j k = let is : value_from b v xs ≡ x = cc in rw (i, is) (sym (limited x ys))
        by_tests true false i j k = absurd (let z : ◌≡◌ {A = ℕ} 0 1 = cc in omega arith)
        by_tests false q i j k = absurd (let z : ◌≡◌ {A = ℕ} 0 1 = cc in omega arith)

    -- they count too much, or are none
    pub none_behind : up_to most (number_from b v xs) ≡ None → up_to most (number_from b v (xs ++ ys)) ≡ None
    none_behind e = both ∙ by_tests (are_digits b xs) (leb (value_from b v xs) most) refl refl (sym (limited v xs) ∙ e)
      where
        x : ℕ
        x = value_from b v xs

        by_tests : (p q : Bool) → are_digits b xs ≡ p → leb x most ≡ q → cond (p && q) (Some x) None ≡ None
            → cond ((are_digits b xs && are_digits b ys) && leb (value_from b x ys) most) (Some (value_from b x ys)) None ≡ None
        by_tests true true i j k = absurd (let z : ◌≡◌ {A = ℕ} 0 1 = cc in omega arith)
        by_tests true false i j k = by_rest (are_digits b xs && are_digits b ys)
          where
            by_rest : (p : Bool) → cond (p && leb (value_from b x ys) most) (Some (value_from b x ys)) None ≡ None
            by_rest true = rw (lt-leb (value_from b x ys) most (lt_of_lt_of_le (leb-false x most j) (grows b one x ys)))
            by_rest false = refl
        by_tests false q i j k = rw i

-- ---- parts of a word

pub index_le : (c : ℕ) (w : List ℕ) → index_of c w ≤ length w
unfolding index_of index_after
index_le c [] = omega arith
index_le c (d ∷ ds) = by_test (index_le c ds) (eqb d c)
  where
    by_test : index_of c ds ≤ length ds → (b : Bool) → index_after b (index_of c ds) ≤ suc (length ds)
    by_test rest true = omega arith
    by_test rest false = omega arith

-- what `find` finds from the start on
pub found : (c to : ℕ) (w : List ℕ) (r : ℕ) → r ≡ 0 + index_of c (slice 0 to w) → r ≡ index_of c (take to w)
unfolding slice
found c to w r e = e ∙ zero-add (index_of c (take to w))

-- ---- digits with a point

module _ (m : List ℕ) (point : ℕ) (is : point ≡ index_of 46 m) (in-word : point ≤ length m) where
  whole_is : whole_digits m ≡ take point m
  unfolding whole_digits before
  whole_is = ap (λ (k : ℕ). take k m) (sym is)

  whole_length : length (whole_digits m) ≡ point
  whole_length = ap length whole_is ∙ length-take-le point m in-word

  fraction_drop : fraction_digits m ≡ drop (suc point) m
  unfolding fraction_digits
  fraction_drop = ap (λ (k : ℕ). drop (suc k) m) whole_length

  pub fraction_length : length (fraction_digits m) ≡ length m - suc point
  fraction_length = ap length fraction_drop ∙ length-drop (suc point) m

  -- as the code takes it: so many characters from the end
  fraction_is : (from : ℕ) → from ≡ length m - (length m - suc point) → drop from m ≡ fraction_digits m
  fraction_is from e = by_test (leb (suc point) (length m)) refl
    where
      by_test : (b : Bool) → leb (suc point) (length m) ≡ b → drop from m ≡ fraction_digits m
      by_test true t =
          let in-front = leb-true (suc point) (length m) t in
          let same : from ≡ suc point = omega arith in
          ap (λ (k : ℕ). drop k m) same ∙ sym fraction_drop
      by_test false t =
          let at_end_lem = leb-false (suc point) (length m) t in
          drop_of_length-le m {i = from} (omega arith) ∙ sym (fraction_drop ∙ drop_of_length-le m {i = suc point} (omega arith))

  pub no_digits : point + (length m - suc point) ≡ 0 → digits_in m ≡ None
  unfolding digits_in count_in up_to number_in
  no_digits h =
      ap (λ (cs : List ℕ). count_in (2 ^ 53) cs)
      (drop_of_length-le (whole_digits m ++ fraction_digits m) {i = 0} (omega (arith, length-append (whole_digits m) (fraction_digits m), whole_length, fraction_length)))

  some_digits : (point + (length m - suc point) ≡ 0 → ⊥) → digits_in m ≡ up_to (2 ^ 53) (number_from 10 0 (whole_digits m ++ fraction_digits m))
  unfolding digits_in count_in
  some_digits n =
      ap (up_to (2 ^ 53))
      (at_least_one 10 (whole_digits m ++ fraction_digits m) (omega (arith, n, length-append (whole_digits m) (fraction_digits m), whole_length, fraction_length)))

  module _ (n : point + (length m - suc point) ≡ 0 → ⊥) where
    pub digits_none : up_to (2 ^ 53) (number_from 10 0 (take point m)) ≡ None → digits_in m ≡ None
    digits_none e =
        some_digits n
        ∙ none_behind 10 (2 ^ 53) (omega arith) (lit< tt) 0 (whole_digits m) (fraction_digits m) (ap (λ (cs : List ℕ). up_to (2 ^ 53) (number_from 10 0 cs)) whole_is ∙ e)

    pub digits_behind : (x from : ℕ) → from ≡ length m - (length m - suc point) → up_to (2 ^ 53) (number_from 10 0 (take point m)) ≡ Some x
        → digits_in m ≡ up_to (2 ^ 53) (number_from 10 x (take (length m - from) (drop from m)))
    digits_behind x from f e =
        some_digits n
        ∙ behind 10 (2 ^ 53) (omega arith) (lit< tt) 0 (whole_digits m) (fraction_digits m) x (ap (λ (cs : List ℕ). up_to (2 ^ 53) (number_from 10 0 cs)) whole_is ∙ e)
        ∙ ap (λ (cs : List ℕ). up_to (2 ^ 53) (number_from 10 x cs)) (sym (part_to_end m from ∙ fraction_is from f))

-- what is read is at most the ceiling
pub below_most : (most : ℕ) (o : Option ℕ) (n : ℕ) → up_to most o ≡ Some n → n ≤ most
unfolding up_to
below_most most None n e = absurd (let z : ◌≡◌ {A = ℕ} 0 1 = cc in omega arith)
below_most most (Some m) n e = by_test (leb m most) refl e
  where
    by_test : (b : Bool) → leb m most ≡ b → cond b (Some m) None ≡ Some n → n ≤ most
    by_test true t e = let is : m ≡ n = cc in omega (arith, leb-true m most t)
    by_test false t e = absurd (let z : ◌≡◌ {A = ℕ} 0 1 = cc in omega arith)

pub digits_below : (m : List ℕ) (n : ℕ) → digits_in m ≡ Some n → n ≤ 2 ^ 53
unfolding digits_in count_in
digits_below m n e = below_most (2 ^ 53) _ n e

-- ---- tens

pub no_tens : (w : List ℕ) → length w ≡ 0 → Some (Tens.Up 0) ≡ tens_in w
unfolding tens_in
no_tens [] h = refl
no_tens (c ∷ cs) h = absurd (omega arith)

-- u is the word behind its `e`, with or without a sign
module _ (w u : List ℕ) (some_character : length w ≡ 0 → ⊥) (is : u ≡ drop 1 w) (minus : Bool) (len : ℕ) (sign : (minus ≡ is_minus u) × (len ≡ sign_length u) × (len ≤ length u)) where
  behind_e : (w : List ℕ) → (length w ≡ 0 → ⊥) → tens_in w ≡ tens_of (is_minus (drop 1 w)) (number_in 10 (behind_sign (drop 1 w)))
  unfolding tens_in
  behind_e [] n = absurd (n refl)
  behind_e (c ∷ cs) n = refl

  pub tens_by : (o : Option ℕ) → number_in 10 (take (length u - len) (drop len u)) ≡ o → tens_in w ≡ tens_of minus o
  unfolding behind_sign
  tens_by o e =
      behind_e w some_character ∙ ap (λ (v : List ℕ). tens_of (is_minus v) (number_in 10 (behind_sign v))) (sym is)
      ∙ ap (λ (b : Bool). tens_of b (number_in 10 (behind_sign u))) (sym sign.0)
      ∙ ap (tens_of minus) (ap (λ (k : ℕ). number_in 10 (drop k u)) (sym sign.1) ∙ ap (number_in 10) (sym (part_to_end u len)) ∙ e)

-- ---- a decimal behind its sign, by the places that were found

module _ (w : List ℕ) (lower end point : ℕ) (e : lower ≡ 0 + index_of 101 (slice 0 (length w) w)) (E : end ≡ 0 + index_of 69 (slice 0 lower w)) (p : point ≡ 0 + index_of 46 (slice 0 end (take end w))) where
  lower_is : lower ≡ index_of 101 w
  lower_is = found 101 (length w) w lower e ∙ ap (index_of 101) (take-length w)

  lower_le : lower ≤ length w
  lower_le = rw lower_is (index_le 101 w)

  end_is : end ≡ index_of 69 (take lower w)
  end_is = found 69 lower w end E

  end_le : end ≤ lower
  end_le = omega (arith, end_is, index_le 69 (take lower w), length-take-le lower w lower_le)

  part_length : length (take end w) ≡ end
  part_length = length-take-le end w (omega (arith, end_le, lower_le))

  part_is : digits_part w ≡ take end w
  unfolding digits_part before
  part_is = rw (← lower_is, ← end_is) (take-take end lower w end_le)

  pub point_is : point ≡ index_of 46 (take end w)
  point_is = found 46 end (take end w) point p ∙ ap (index_of 46) (take-take end end w (omega arith))

  pub unsigned_by : (minus : Bool) → unsigned_in minus w ≡ scaled minus (end - suc point) (digits_in (take end w)) (tens_in (take (length w - end) (drop end w)))
  unfolding unsigned_in
  unsigned_by minus =
      ap (λ (m : List ℕ). scaled minus (length (fraction_digits m)) (digits_in m) (tens_in (drop (length m) w))) part_is
      ∙ rw (fraction_length (take end w) point point_is (rw point_is (index_le 46 (take end w))), part_length, part_to_end w end)

-- the same with the sign
pub decimal_by : (w : List ℕ) (minus : Bool) (len : ℕ) → (minus ≡ is_minus w) × (len ≡ sign_length w) × (len ≤ length w) → unsigned_in minus (take (length w - len) (drop len w)) ≡ decimal_in w
unfolding decimal_in behind_sign
decimal_by w minus len sign =
    ap (unsigned_in minus) (part_to_end w len) ∙ ap (λ (k : ℕ). unsigned_in minus (drop k w)) sign.1 ∙ ap (λ (b : Bool). unsigned_in b (drop (sign_length w) w)) sign.0

pub scaled-same : (minus : Bool) {p q : ℕ} {o r : Option ℕ} {t u : Option Tens} → p ≡ q → o ≡ r → t ≡ u → scaled minus p o t ≡ scaled minus q r u
scaled-same minus e f g = λ w. scaled minus (e w) (f w) (g w)

-- ---- a float of a format

module _ (f : Format) where
  pub plain_none : (w : List ℕ) → length w ≡ 0 → plain_in f w ≡ None
  unfolding plain_in
  plain_none [] h = refl
  plain_none (c ∷ cs) h = absurd (omega arith)

  pub plain_bits : (w : List ℕ) → (length w ≡ 0 → ⊥) → get_or w 0 0 ≡ 120 → float_in f (take (length w - 1) (drop 1 w)) ≡ plain_in f w
  unfolding plain_in
  plain_bits w n e = ap (float_in f) (part_to_end w 1) ∙ by_first w n e
    where
      by_first : (w : List ℕ) → (length w ≡ 0 → ⊥) → get_or w 0 0 ≡ 120 → float_in f (drop 1 w) ≡ plain_in f w
      by_first [] n e = absurd (n refl)
      by_first (c ∷ cs) n e = rw (eq-eqb c 120 e)

  pub plain_number : (w : List ℕ) → (length w ≡ 0 → ⊥) → (get_or w 0 0 ≡ 120 → ⊥) → held f (named_in w) ≡ plain_in f w
  unfolding plain_in
  plain_number [] n m = absurd (n refl)
  plain_number (c ∷ cs) n m = rw (ne_eqb c 120 m)

pub held-double : (o : Option Float) → held binary64 o ≡ o
unfolding held
held-double None = refl
held-double (Some x) = refl
