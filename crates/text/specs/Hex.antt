-- "a file's bytes, two lower-case digits each", "`-` for none"
use Rattle.std.specs.Prelude.{cond, List, [], ◌∷◌, ◌++◌, ℕ, ◌/◌, leb, length, take, Option, None, Some}
use Rattle.text.specs.Digits.{bits_in, digits_of}
use Rattle.text.specs.Words.{Word, same_word, next_at}
use Rattle.text.specs.declared.words.Next.{Next}

-- ---- read

-- a byte before some others, if all are read
unfoldable pub before : Option ℕ → Option (List ℕ) → Option (List ℕ)
before None bytes = None
before (Some b) None = None
before (Some b) (Some bs) = Some (b ∷ bs)

-- two digits each; none where one is left over
unfoldable pub pairs_in : Word → Option (List ℕ)
pairs_in [] = Some []
pairs_in (c ∷ []) = None
pairs_in (c ∷ d ∷ cs) = before (bits_in 2 (c ∷ d ∷ [])) (pairs_in cs)

-- a word as bytes: no word is empty
unfoldable pub bytes_in : Word → Option (List ℕ)
bytes_in [] = None
bytes_in (c ∷ cs) = cond (same_word (c ∷ cs) (45 ∷ [])) (Some []) (pairs_in (c ∷ cs))

-- how many they are, and they
abbrev pub Sized : Type 0
Sized = ℕ × List ℕ

unfoldable pub sized : Option (List ℕ) → Option Sized
sized None = None
sized (Some bs) = Some (length bs, bs)

-- up to `most` of them
unfoldable pub bytes_up_to : ℕ → Word → Option Sized
bytes_up_to most w = cond (leb (length w / 2) most) (sized (bytes_in w)) None

-- so many, in front of a slice
unfoldable pub sized_at : List ℕ → Option ℕ → Option Sized
sized_at bytes (Some n) = Some (n, take n bytes)
sized_at bytes None = None

-- and the words behind them
abbrev pub bytes_at : List ℕ → List ℕ → Option (Next ℕ) → Option (Sized × List Word)
bytes_at s bytes = next_at (λ n. (n, take n bytes)) s

-- ---- written

unfoldable pub bytes_text : List ℕ → List ℕ
bytes_text [] = []
bytes_text (b ∷ bs) = digits_of 16 2 b ++ bytes_text bs
