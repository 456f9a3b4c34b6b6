-- The words of a line by places: where a word begins and ends, and those behind it. Assumes nothing.
use mathlib.Core.Path.{◌≡◌, refl, sym, ap, ◌∙◌, subst}
use mathlib.Core.Bool.{Bool, true, false, cond}
use mathlib.Core.List.{List, [], ◌∷◌}
use Rattle.std.specs.Prelude.{Option, None, Some}
use Prim.Native.Nat.{ℕ, suc, ◌+◌, ◌-◌, ◌≤◌, ◌<◌}
use native.Mathlib.Nat.{add-zero, add-sub_cancel_left, add_assoc}
use native.Mathlib.Omega.{arith}
use lib.Dec.{leb, ltb, eqb, leb-zero}
use lib.ListN.{length, take, drop, length-drop}
use lib.Seq.{drop-drop}
use borrow.Author.Tests.{le-leb, lt-leb, leb-true, leb-false, ltb-true, ltb-false}
use Rattle.scan.specs.Bytes.{index_of, index_after}
use Rattle.text.specs.Digits.{number_in}
use Rattle.text.specs.Words.{Word, joined, words_of, words_from, end_of, taken, beside, up_to, count_in, is_over}

-- the same words, counted from a place of the line
pub from_drop : (s : List ℕ) (at m : ℕ) → at ≤ length s → words_from (drop at s) m ≡ words_from s (at + m)
unfolding words_from
from_drop s at m h = by_test (leb m (length (drop at s))) refl
  where
    by_test : (b : Bool) → leb m (length (drop at s)) ≡ b → cond (leb m (length (drop at s))) (words_of (drop m (drop at s))) [] ≡ cond (leb (at + m) (length s)) (words_of (drop (at + m) s)) []
    by_test true e = rw (e, le-leb (at + m) (length s) (omega (arith, length-drop at s, leb-true m (length (drop at s)) e)), drop-drop)
    by_test false e = rw (e, lt-leb (at + m) (length s) (omega (arith, length-drop at s, leb-false m (length (drop at s)) e)))

pub from_start : (s : List ℕ) → words_from s 0 ≡ words_of s
unfolding words_from
from_start s = rw (leb-zero (length s))

-- the first word, and those behind the space that ends it
first_word : (cs : List ℕ) → words_of cs ≡ take (index_of 32 cs) cs ∷ words_from cs (index_of 32 cs + 1)
unfolding words_of index_of index_after joined words_from
first_word [] = refl
first_word (c ∷ cs) = by_test (first_word cs) (eqb c 32) refl
  where
    by_test : words_of cs ≡ take (index_of 32 cs) cs ∷ words_from cs (index_of 32 cs + 1) → (b : Bool) → eqb c 32 ≡ b
        → words_of (c ∷ cs) ≡ take (index_of 32 (c ∷ cs)) (c ∷ cs) ∷ words_from (c ∷ cs) (index_of 32 (c ∷ cs) + 1)
    by_test rest true e = rw e (ap (λ (ws : List Word). [] ∷ ws) (sym (from_start cs) ∙ from_drop (c ∷ cs) 1 0 (omega arith)))
    by_test rest false e =
        let k : ℕ = index_of 32 cs in
        let next : 1 + (k + 1) ≡ suc k + 1 = omega arith in
        rw (e, rest) (ap (λ (ws : List Word). (c ∷ take k cs) ∷ ws) (from_drop (c ∷ cs) 1 (k + 1) (omega arith) ∙ ap (words_from (c ∷ cs)) next))

pub index_le : (b : ℕ) (cs : List ℕ) → index_of b cs ≤ length cs
unfolding index_of index_after
index_le b [] = omega arith
index_le b (c ∷ cs) = by_test (index_le b cs) (eqb c b)
  where
    by_test : index_of b cs ≤ length cs → (t : Bool) → index_after t (index_of b cs) ≤ suc (length cs)
    by_test rest true = omega arith
    by_test rest false = omega arith

-- the word at a place, and those behind it
pub split : (s : List ℕ) (at : ℕ) → at ≤ length s → words_from s at ≡ take (end_of s at - at) (drop at s) ∷ words_from s (end_of s at + 1)
unfolding end_of
split s at h =
    let k : ℕ = index_of 32 (drop at s) in
    ap (words_from s) (sym (add-zero at)) ∙ sym (from_drop s at 0 h) ∙ from_start (drop at s) ∙ first_word (drop at s)
    ∙ rw (add-sub_cancel_left at k, add_assoc at k 1) (ap (λ (ws : List Word). take k (drop at s) ∷ ws) (from_drop s at (k + 1) h))

pub end_of_lem : (s : List ℕ) (at : ℕ) → at ≤ length s → (at ≤ end_of s at) × (end_of s at ≤ length s)
unfolding end_of
end_of_lem s at h = (omega arith, omega (arith, index_le 32 (drop at s), length-drop at s))

module _ {A : Type 0} (read : Word → Option A) (s : List ℕ) (at : ℕ) where
  pub no_word : length s < at → taken read (words_from s at) ≡ None
  unfolding taken words_from
  no_word h = rw (lt-leb at (length s) h)

  module _ (h : at ≤ length s) (to : ℕ) (e : to ≡ end_of s at) where
    a_word : taken read (words_from s at) ≡ beside (read (take (to - at) (drop at s))) (words_from s (to + 1))
    unfolding taken
    a_word = rw (e, split s at h)

    pub not_read_lem : read (take (to - at) (drop at s)) ≡ None → taken read (words_from s at) ≡ None
    unfolding beside
    not_read_lem o = a_word ∙ ap (λ (x : Option A). beside x (words_from s (to + 1))) o

    pub is_read : {x : A} → read (take (to - at) (drop at s)) ≡ Some x → taken read (words_from s at) ≡ Some (x, words_from s (to + 1))
    unfolding beside
    is_read o = a_word ∙ ap (λ (x : Option A). beside x (words_from s (to + 1))) o

-- ---- whether a word is left

pub is_over_lem : (s : List ℕ) (at : ℕ) → ltb (length s) at ≡ is_over (words_from s at)
unfolding is_over words_from
is_over_lem s at = by_test (ltb (length s) at) refl
  where
    some_word : (cs : List ℕ) → is_over (words_of cs) ≡ false
    some_word cs = subst (λ (ws : List Word). is_over ws ≡ false) (sym (first_word cs)) refl

    by_test : (b : Bool) → ltb (length s) at ≡ b → b ≡ is_over (words_from s at)
    by_test true e = rw (lt-leb at (length s) (ltb-true (length s) at e))
    by_test false e = rw (le-leb at (length s) (ltb-false (length s) at e)) (sym (some_word (drop at s)))

-- ---- a count is within its ceiling

pub count_below : (most : ℕ) (ws : List Word) {n : ℕ} {rest : List Word} → taken (count_in most) ws ≡ Some (n, rest) → n ≤ most
unfolding taken beside count_in up_to
count_below most [] e = let z : ◌≡◌ {A = ℕ} 0 1 = cc in absurd (omega arith)
count_below most (w ∷ ws) {n} {rest} e = by_number (number_in 10 w) e
  where
    by_test : (m : ℕ) (b : Bool) → leb m most ≡ b → beside (cond b (Some m) None) ws ≡ Some (n, rest) → n ≤ most
    by_test m true t e = let p : ◌≡◌ {A = ℕ × List Word} (m, ws) (n, rest) = cc in subst (λ (k : ℕ). k ≤ most) (ap (λ (q : ℕ × List Word). q.0) p) (leb-true m most t)
    by_test m false t e = let z : ◌≡◌ {A = ℕ} 0 1 = cc in absurd (omega arith)

    by_number : (o : Option ℕ) → beside (up_to most o) ws ≡ Some (n, rest) → n ≤ most
    by_number None e = let z : ◌≡◌ {A = ℕ} 0 1 = cc in absurd (omega arith)
    by_number (Some m) e = by_test m (leb m most) refl e
