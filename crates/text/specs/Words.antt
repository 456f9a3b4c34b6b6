-- A line as its words, "separated by one space", and a word taken off them as a number.
use Rattle.std.specs.Prelude.{Bool, true, false, cond, List, [], ◌∷◌, ℕ, ◌+◌, leb, eqb, length, drop, Option, None, Some, bytes_eq}
use Rattle.scan.specs.Bytes.{index_of}
use Rattle.text.specs.Digits.{number_in}
use Rattle.text.specs.declared.words.Next.{Next}

abbrev pub Word : Type 0
Word = List ℕ

-- character by character, as `==` compares slices
abbrev pub same_word : Word → Word → Bool
same_word = bytes_eq

-- a character before the first of some words
unfoldable pub joined : ℕ → List Word → List Word
joined c [] = (c ∷ []) ∷ []
joined c (w ∷ ws) = (c ∷ w) ∷ ws

-- the words of a line: a doubled or trailing space leaves an empty one
unfoldable pub words_of : List ℕ → List Word
words_of [] = [] ∷ []
words_of (c ∷ cs) = let words = words_of cs in cond (eqb c 32) ([] ∷ words) (joined c words)

-- ---- taken one after the other

unfoldable pub beside : {A : Type 0} → Option A → List Word → Option (A × List Word)
beside None ws = None
beside (Some x) ws = Some (x, ws)

-- what `read` says of the first word, and the words behind it
unfoldable pub taken : {A : Type 0} → (Word → Option A) → List Word → Option (A × List Word)
taken read [] = None
taken read (w ∷ ws) = beside (read w) ws

-- a decimal count up to a ceiling
unfoldable pub up_to : ℕ → Option ℕ → Option ℕ
up_to most None = None
up_to most (Some n) = cond (leb n most) (Some n) None

unfoldable pub count_in : ℕ → Word → Option ℕ
count_in most w = up_to most (number_in 10 w)

-- no word is left
unfoldable pub is_over : List Word → Bool
is_over [] = true
is_over (w ∷ ws) = false

-- ---- the same by places of a line

-- the words from a place on, where one begins; none where the line ends before it
unfoldable pub words_from : List ℕ → ℕ → List Word
words_from s at = cond (leb at (length s)) (words_of (drop at s)) []

-- where a word ends that begins at a place
unfoldable pub end_of : List ℕ → ℕ → ℕ
end_of s at = at + index_of 32 (drop at s)

-- what was said of a word, as the definitions have it, and the words behind
abbrev pub next_at : {A B : Type 0} → (A → B) → List ℕ → Option (Next A) → Option (B × List Word)
next_at value s None = None
next_at value s (Some n) = Some (value n.value, words_from s n.next)
