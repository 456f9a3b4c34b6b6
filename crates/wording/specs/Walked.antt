-- What the code says of a line that it goes through and a buffer that it writes into.
use Rattle.std.specs.Prelude.{◌≡◌, Bool, true, cond, List, [], ◌∷◌, ℕ, zero, suc, ◌+◌, ◌-◌, ◌*◌, ◌≤◌, ◌<◌, T, length, take, drop, Option, None, Some}
use Rattle.std.specs.Bool.{beq}
use Rattle.text.specs.Put.{Put}
use Rattle.text.specs.Words.{Word}
use Rattle.wording.specs.declared.Span.{Span}
use Rattle.wording.specs.declared.Told.{Told}
use Rattle.wording.specs.Plain.{is_blank, words_at, Fields}

-- how many characters at the front are blank, or are not
unfoldable pub run_of : Bool → List ℕ → ℕ
run_of blank [] = zero
run_of blank (c ∷ cs) = let more = run_of blank cs in cond (beq (is_blank c) blank) (suc more) zero

-- the first of some words, and the others
unfoldable pub first_of : List Word → Option (Word × List Word)
first_of [] = None
first_of (w ∷ ws) = Some (w, ws)

-- the word at two places of a line, and the words behind it
unfoldable pub next_at : List ℕ → Option Span → Option (Word × List Word)
next_at s (Some w) = Some (take (w.to - w.from) (drop w.from s), words_at s w.to)
next_at s None = None

-- it stands behind the place `at`, and has a character
unfoldable pub Behind : List ℕ → ℕ → Option Span → Type 0
Behind s at (Some w) = (at ≤ w.from) × (w.from < w.to) × (w.to ≤ length s)
Behind s at None = T true

-- l with a text written from `at` on is l', or the text is not there
unfoldable pub Wrote : Option (List ℕ) → List ℕ → ℕ → Option ℕ → List ℕ → Type 0
Wrote o l at (Some p) l' = (t : List ℕ) × (o ≡ Some t) × Put l at t l' p
Wrote o l at None l' = o ≡ None

-- the same for fields out of a line s, behind which other words stand
unfoldable pub Ran : List ℕ → Fields → List ℕ → ℕ → Option Told → List ℕ → Type 0
Ran s o l at (Some r) l' = (t : List ℕ) × (o ≡ Some (t, words_at s r.next)) × Put l at t l' r.to
Ran s o l at None l' = o ≡ None

-- for each character passed no more than 17 are written: a space and 16 digits
unfoldable pub Passed : List ℕ → ℕ → ℕ → Option Told → Type 0
Passed s from at (Some r) = (r.next ≤ length s) × (r.to + 17 * (length s - r.next) ≤ at + 17 * (length s - from))
Passed s from at None = T true

-- both places are within
unfoldable pub Inside : List ℕ → List ℕ → Option Told → Type 0
Inside s l (Some r) = (r.next ≤ length s) × (r.to ≤ length l)
Inside s l None = T true

unfoldable pub Room : List ℕ → Option ℕ → Type 0
Room l (Some p) = p ≤ length l
Room l None = T true
