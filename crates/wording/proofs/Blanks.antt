-- The words of a line by runs of blanks and of other characters. Assumes nothing.
use mathlib.Core.Path.{◌≡◌, refl, sym, ap, ◌∙◌}
use mathlib.Core.Bool.{Bool, true, false, cond, beq, true≢false}
use mathlib.Core.List.{List, [], ◌∷◌}
use Prim.Native.Nat.{ℕ, zero, suc, ◌+◌, ◌-◌, ◌≤◌, ◌<◌}
use native.Mathlib.Numerals.{one-add, add-one}
use native.Mathlib.Omega.{arith}
use lib.ListN.{length, get_or, take, drop, drop_of_length-le}
use lib.Seq.{drop-cons, drop-drop}
use Rattle.std.specs.Prelude.{Some}
use Rattle.std.specs.List.{prefix_len}
use Rattle.text.specs.Words.{Word, joined}
use Rattle.wording.specs.Plain.{is_blank, split, is_one, is_small, kept, spoken, words_at}
use Rattle.wording.specs.Walked.{run_of, first_of, next_at}

-- ---- a run

pub run_le : (b : Bool) (cs : List ℕ) → run_of b cs ≤ length cs
unfolding run_of
run_le b [] = omega arith
run_le b (c ∷ cs) = by_test (run_le b cs) (beq (is_blank c) b)
  where
    by_test : run_of b cs ≤ length cs → (t : Bool) → cond t (suc (run_of b cs)) zero ≤ suc (length cs)
    by_test rest true = omega arith
    by_test rest false = omega arith

-- the same in the library's words
pub run_is : (b : Bool) (cs : List ℕ) → prefix_len (λ c. beq (is_blank c) b) cs ≡ run_of b cs
unfolding run_of
run_is b [] = refl
run_is b (c ∷ cs) = ap (λ (n : ℕ). cond (beq (is_blank c) b) n 0) (one-add _ ∙ ap suc (run_is b cs))

module _ (b : Bool) (s : List ℕ) (i : ℕ) (inside : i < length s) (blank : Bool) (is : blank ≡ is_blank (get_or s i 0)) where
  -- the run goes on, or ends here
  pub goes_on : beq blank b ≡ true → run_of b (drop i s) ≡ suc (run_of b (drop (i + 1) s))
  unfolding run_of
  goes_on e = rw (drop-cons s i 0 inside, ← is, e, add-one i)

  pub ends : beq blank b ≡ false → run_of b (drop i s) ≡ 0
  unfolding run_of
  ends e = rw (drop-cons s i 0 inside, ← is, e)

pub ends_last : (b : Bool) (s : List ℕ) (i : ℕ) → length s ≤ i → run_of b (drop i s) ≡ 0
unfolding run_of
ends_last b s i h = rw (drop_of_length-le s h)

-- ---- words

kept_none : (ws : List Word) → kept [] ws ≡ ws
unfolding kept is_small is_one
kept_none ws = refl

-- blanks at the front say nothing
blanks_off : (cs : List ℕ) → spoken (split cs) ≡ spoken (split (drop (run_of true cs) cs))
unfolding split spoken run_of
blanks_off [] = refl
blanks_off (c ∷ cs) = by_test (is_blank c) refl (blanks_off cs)
  where
    by_test : (t : Bool) → is_blank c ≡ t → spoken (split cs) ≡ spoken (split (drop (run_of true cs) cs))
        → spoken (split (c ∷ cs)) ≡ spoken (split (drop (cond (beq t true) (suc (run_of true cs)) zero) (c ∷ cs)))
    by_test true e rest = rw e (kept_none (spoken (split cs)) ∙ rest)
    by_test false e rest = refl

-- what is left of the words behind the first: nothing at the end of the line, and else a blank comes before them
behind : List ℕ → List Word
behind [] = []
behind (c ∷ cs) = split cs

-- the first word is a run of characters that are no blanks
first_run : (cs : List ℕ) → split cs ≡ take (run_of false cs) cs ∷ behind (drop (run_of false cs) cs)
unfolding split run_of behind joined
first_run [] = refl
first_run (c ∷ cs) = by_test (is_blank c) (first_run cs)
  where
    by_test : (t : Bool) → split cs ≡ take (run_of false cs) cs ∷ behind (drop (run_of false cs) cs)
        → cond t ([] ∷ split cs) (joined c (split cs)) ≡ take (cond (beq t false) (suc (run_of false cs)) zero) (c ∷ cs) ∷ behind (drop (cond (beq t false) (suc (run_of false cs)) zero) (c ∷ cs))
    by_test true rest = refl
    by_test false rest = rw rest

behind-spoken : (cs : List ℕ) → spoken (behind (drop (run_of false cs) cs)) ≡ spoken (split (drop (run_of false cs) cs))
unfolding split spoken run_of behind
behind-spoken [] = sym (kept_none [])
behind-spoken (c ∷ cs) = by_test (is_blank c) refl (behind-spoken cs)
  where
    by_test : (t : Bool) → is_blank c ≡ t → spoken (behind (drop (run_of false cs) cs)) ≡ spoken (split (drop (run_of false cs) cs))
        → spoken (behind (drop (cond (beq t false) (suc (run_of false cs)) zero) (c ∷ cs))) ≡ spoken (split (drop (cond (beq t false) (suc (run_of false cs)) zero) (c ∷ cs)))
    by_test true e rest = rw e (sym (kept_none (spoken (split cs))))
    by_test false e rest = rest

-- ---- by places of a line

module _ (s : List ℕ) (at from to : ℕ) (skipped : from ≡ at + run_of true (drop at s)) (ended : to ≡ from + run_of false (drop from s)) where
  -- the word from `from` to `to`, where it means something, and the words behind it
  pub one_word : words_at s at ≡ kept (take (to - from) (drop from s)) (words_at s to)
  unfolding words_at spoken
  one_word =
      let k = run_of false (drop from s) in
      let long : to - from ≡ k = omega arith in
      blanks_off (drop at s)
      ∙ ap (λ (cs : List ℕ). spoken (split cs)) (drop-drop (run_of true (drop at s)) at s ∙ ap (λ (i : ℕ). drop i s) (sym skipped))
      ∙ ap spoken (first_run (drop from s))
      ∙ ap (kept (take k (drop from s))) (behind-spoken (drop from s) ∙ ap (λ (cs : List ℕ). spoken (split cs)) (drop-drop k from s ∙ ap (λ (i : ℕ). drop i s) (sym ended)))
      ∙ ap (λ (i : ℕ). kept (take i (drop from s)) (words_at s to)) (sym long)

  pub a_small : is_small (take (to - from) (drop from s)) ≡ true → words_at s at ≡ words_at s to
  unfolding kept
  a_small e = one_word ∙ rw e

  pub a_word : is_small (take (to - from) (drop from s)) ≡ false → next_at s (Some (record { from = from; to = to })) ≡ first_of (words_at s at)
  unfolding kept next_at first_of
  a_word e =
      let is : words_at s at ≡ take (to - from) (drop from s) ∷ words_at s to = one_word ∙ rw e in
      sym (ap first_of is)

-- each turn passes a character
pub passes : (s : List ℕ) (i from to : ℕ) → i < length s → from ≡ i + run_of true (drop i s) → to ≡ from + run_of false (drop from s) → i < to
passes s i from to inside skipped ended = by_test (is_blank (get_or s i 0)) refl
  where
    by_test : (t : Bool) → is_blank (get_or s i 0) ≡ t → i < to
    by_test true e = omega (arith, goes_on true s i inside true (sym e) refl)
    by_test false e =
        let here : from ≡ i = omega (arith, ends true s i inside false (sym e) refl) in
        let run : run_of false (drop from s) ≡ run_of false (drop i s) = ap (λ (k : ℕ). run_of false (drop k s)) here in
        omega (arith, goes_on false s i inside false (sym e) refl)

-- a word has a character
pub some_character : (w : Word) → is_small w ≡ false → 0 < length w
unfolding is_small is_one
some_character [] e = absurd (true≢false e)
some_character (c ∷ cs) e = omega arith

pub no_word : (s : List ℕ) (at : ℕ) → length s ≤ at → words_at s at ≡ []
unfolding words_at spoken split
no_word s at h = rw (drop_of_length-le s h) (kept_none [])
