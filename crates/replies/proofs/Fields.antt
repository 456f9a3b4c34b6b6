-- The fields of a line: where one ends, the mark behind it, and how long its text is. Assumes nothing.
use mathlib.Core.Path.{◌≡◌, refl, sym, ap, ◌∙◌}
use mathlib.Core.Bool.{Bool, true, false, cond}
use mathlib.Core.List.{List, [], ◌∷◌, ◌++◌, append_assoc, append-nil}
use Rattle.std.specs.Prelude.{Option, None, Some, nat_lt}
use Prim.Native.Nat.{ℕ, zero, suc, ◌+◌, ◌≤◌, ◌<◌}
use native.Mathlib.Numerals.{one-add, add-one}
use Rattle.std.proofs.lemmas.List.{take_all}
use native.Mathlib.Omega.{arith}
use lib.Dec.{eqb}
use lib.ListN.{length, get_or, take, drop, drop_of_length-le}
use lib.Seq.{drop-cons}
use Rattle.std.specs.List.{position, position_or_len}
use Rattle.std.proofs.lemmas.List.Quantifiers.{position-Some}
use Rattle.std.proofs.lemmas.List.Recursion.{is_position_or_len}
use lib.Ieee.{Float, Format, binary32, binary64}
use borrow.Author.Tests.{eqb-true, ltb-false}
use Rattle.text.specs.Digits.{number_in, bits_in}
use Rattle.text.specs.Floats.{digits_for, float_of, float_in}
use Rattle.text.specs.Words.{Word, joined}
use Rattle.decimal.specs.Shown.{plain_text}
use Rattle.replies.specs.Plain.{is_mark, parts, shown_or, plain_field, plain_fields}

-- ---- where a field ends

-- how many characters stand before the first mark
mark_at : List ℕ → ℕ
mark_at [] = zero
mark_at (c ∷ cs) = let more = mark_at cs in cond (is_mark c) zero (suc more)

at_mark : (cs : List ℕ) → mark_at cs ≡ position_or_len is_mark cs
unfolding mark_at
at_mark cs = is_position_or_len mark_at is_mark refl (λ x xs. ap (cond (is_mark x) 0) (sym (one-add (mark_at xs)))) cs

-- ---- the first field, and what stands behind it

-- nothing, or a mark and the fields behind it
behind : List ℕ → List Word
behind [] = []
behind (c ∷ cs) = (c ∷ []) ∷ parts cs

first_part : (cs : List ℕ) → parts cs ≡ take (mark_at cs) cs ∷ behind (drop (mark_at cs) cs)
unfolding parts mark_at behind joined
first_part [] = refl
first_part (c ∷ cs) = by_test (is_mark c) (first_part cs)
  where
    by_test : (t : Bool) → parts cs ≡ take (mark_at cs) cs ∷ behind (drop (mark_at cs) cs)
        → cond t ([] ∷ (c ∷ []) ∷ parts cs) (joined c (parts cs)) ≡ take (cond t zero (suc (mark_at cs))) (c ∷ cs) ∷ behind (drop (cond t zero (suc (mark_at cs))) (c ∷ cs))
    by_test true rest = refl
    by_test false rest = rw rest

module _ (s : List ℕ) where
  -- the last field, or one with a mark behind it
  pub last_field : position is_mark s ≡ None → plain_fields (parts s) ≡ plain_field s
  unfolding plain_fields behind
  last_field e = by_test (nat_lt (position_or_len is_mark s) (length s)) refl e
    where
      by_test : (t : Bool) → nat_lt (position_or_len is_mark s) (length s) ≡ t → cond t (Some (position_or_len is_mark s)) None ≡ None → plain_fields (parts s) ≡ plain_field s
      by_test true h e = absurd (let z : ◌≡◌ {A = ℕ} 0 1 = cc in omega arith)
      by_test false h e =
          let long : length s ≤ mark_at s = rw (at_mark s) (ltb-false _ _ h) in
          ap plain_fields (first_part s) ∙ rw (drop_of_length-le s long, take_all _ s long) (append-nil (plain_field s))

  module _ {k : ℕ} (e : position is_mark s ≡ Some k) where
    pub mark_in : k < length s
    mark_in = (position-Some is_mark s k 0 e).0

    at_k : mark_at s ≡ k
    at_k = by_test (nat_lt (position_or_len is_mark s) (length s)) e
      where
        by_test : (t : Bool) → cond t (Some (position_or_len is_mark s)) None ≡ Some k → mark_at s ≡ k
        by_test true e = let is : position_or_len is_mark s ≡ k = cc in at_mark s ∙ is
        by_test false e = absurd (let z : ◌≡◌ {A = ℕ} 0 1 = cc in omega arith)

    pub next_field : plain_fields (parts s) ≡ plain_field (take k s) ++ (get_or s k 0 ∷ plain_fields (parts (drop (k + 1) s)))
    unfolding behind plain_fields plain_field shown_or float_in float_of bits_in
    next_field = ap plain_fields (first_part s) ∙ rw (at_k, drop-cons s k 0 mark_in, add-one k)

-- what was written, and the field and the mark behind it
pub one_more : (t f : List ℕ) (c : ℕ) (rest : List ℕ) → t ++ (f ++ (c ∷ rest)) ≡ ((t ++ f) ++ (c ∷ [])) ++ rest
one_more t f c rest = rw (append_assoc (t ++ f) (c ∷ []) rest, append_assoc t f (c ∷ rest))

-- ---- a field

bits_length : (n : ℕ) (cs : List ℕ) {b : ℕ} → bits_in n cs ≡ Some b → length cs ≡ n
unfolding bits_in
bits_length n cs {b} e = by_test (eqb (length cs) n) refl e
  where
    by_test : (t : Bool) → eqb (length cs) n ≡ t → cond t (number_in 16 cs) None ≡ Some b → length cs ≡ n
    by_test true g e = eqb-true (length cs) n g
    by_test false g e = absurd (let z : ◌≡◌ {A = ℕ} 0 1 = cc in omega arith)

pub float_length : (f : Format) (w : Word) {x : Float} → float_in f w ≡ Some x → length w ≡ digits_for f
unfolding float_in float_of
float_length f w {x} e = by_bits (bits_in (digits_for f) w) refl e
  where
    by_bits : (o : Option ℕ) → bits_in (digits_for f) w ≡ o → float_of f o ≡ Some x → length w ≡ digits_for f
    by_bits None g e = absurd (let z : ◌≡◌ {A = ℕ} 0 1 = cc in omega arith)
    by_bits (Some b) g e = bits_length (digits_for f) w g

module _ (w : Word) where
  pub a_value : {x : Float} → float_in binary32 w ≡ Some x → plain_field w ≡ plain_text binary32 x
  unfolding plain_field shown_or
  a_value e = ap (shown_or binary32 (shown_or binary64 w (float_in binary64 w))) e

  module _ (no : float_in binary32 w ≡ None) where
    pub a_time : {x : Float} → float_in binary64 w ≡ Some x → plain_field w ≡ plain_text binary64 x
    unfolding plain_field shown_or
    a_time e = ap (shown_or binary32 (shown_or binary64 w (float_in binary64 w))) no ∙ ap (shown_or binary64 w) e

    pub as_it_is : float_in binary64 w ≡ None → plain_field w ≡ w
    unfolding plain_field shown_or
    as_it_is e = ap (shown_or binary32 (shown_or binary64 w (float_in binary64 w))) no ∙ ap (shown_or binary64 w) e
