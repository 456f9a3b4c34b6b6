-- What comes before the first word of a line. Assumes nothing.
use mathlib.Core.Path.{◌≡◌, refl, sym, subst}
use mathlib.Core.List.{List, [], ◌∷◌}
use Rattle.std.specs.Prelude.{Option, Some}
use Prim.Native.Nat.{ℕ, ◌+◌, zero-le}
use native.Mathlib.Nat.{sub-zero}
use native.Mathlib.Omega.{arith}
use lib.Ieee.{Float}
use lib.ListN.{length, get_or, take}
use borrow.Author.Tests.{eq-eqb, ne_eqb}
use Rattle.text.specs.Words.{words_from, end_of}
use Rattle.text.proofs.Splitting.{from_start, split}
use Rattle.calls.specs.declared.Call.{Call}
use Rattle.calls.specs.Language.{Said, found, calls, call_of, Heard}

pub empty_line : (line : List ℕ) (numbers : List Float) (file : List ℕ) → length line ≡ 0 → Heard (call_of line) (Some Call.Nothing) numbers file
unfolding call_of
empty_line [] numbers file h = (refl, refl, refl)
empty_line (c ∷ cs) numbers file h = absurd (omega arith)

pub comment : (line : List ℕ) (numbers : List Float) (file : List ℕ) → (length line ≡ 0 → ⊥) → get_or line 0 0 ≡ 35 → Heard (call_of line) (Some Call.Nothing) numbers file
unfolding call_of
comment [] numbers file some-char h = absurd (some-char refl)
comment (c ∷ cs) numbers file some-char h = rw (eq-eqb c 35 h) (refl, refl, refl)

pub heard_by : {o o' : Option Said} (call : Option Call) (numbers : List Float) (file : List ℕ) → o ≡ o' → Heard o' call numbers file → Heard o call numbers file
heard_by call numbers file e h = subst (λ (x : Option Said). Heard x call numbers file) (sym e) h

pub by_word : (line : List ℕ) → (length line ≡ 0 → ⊥) → (get_or line 0 0 ≡ 35 → ⊥) → (to : ℕ) → to ≡ end_of line 0 → call_of line ≡ found calls (take to line) (words_from line (to + 1))
unfolding call_of
by_word [] some-char other to e = absurd (some-char refl)
by_word (c ∷ cs) some-char other to e = rw (ne_eqb c 35 other, ← from_start (c ∷ cs), split (c ∷ cs) 0 zero-le, sub-zero (end_of (c ∷ cs) 0), e)
