-- The language of `play`: the calls of the session language with decimal numbers, words apart by blanks, small words between them, and a comment
-- behind `#`. A line means what its translation into the session language means; that language has no `cost`, which `play` answers itself.
use Rattle.std.specs.Prelude.{Bool, false, cond, ◌||◌, List, [], ◌∷◌, ◌++◌, ℕ, zero, suc, leb, eqb, length, drop, Float, Option, None, Some}
use Prim.Native.Char.{code}
use Rattle.std.specs.Float.{Format, binary32, binary64}
use Rattle.text.specs.Digits.{number_in, decimal_of}
use Rattle.text.specs.Floats.{float_text}
use Rattle.text.specs.Words.{Word, same_word, joined}
use Rattle.calls.specs.Language.{ending}
use Rattle.decimal.specs.Codes.{codes}
use Rattle.decimal.specs.Decimals.{before, plain_in}
use Rattle.wording.specs.declared.Kind.{Kind}
use Rattle.wording.specs.declared.Tail.{Tail}
use Rattle.wording.specs.declared.Form.{Form}

-- ---- words

-- a space, a tab, or a carriage return before the newline
unfoldable pub is_blank : ℕ → Bool
is_blank c = eqb c (code " ") || (eqb c 9 || eqb c 13)

-- apart by blanks; two blanks leave an empty word between them
unfoldable pub split : List ℕ → List Word
split [] = [] ∷ []
split (c ∷ cs) = let words = split cs in cond (is_blank c) ([] ∷ words) (joined c words)

unfoldable pub is_one : List Word → Word → Bool
is_one [] w = false
is_one (x ∷ xs) w = same_word w x || is_one xs w

-- words that may stand between the others and mean nothing, the empty one among them
unfoldable pub is_small : Word → Bool
is_small = is_one ([] ∷ codes "at" ∷ codes "to" ∷ codes "for" ∷ codes "from" ∷ codes "in" ∷ codes "with" ∷ codes "by" ∷ codes "over" ∷ [])

unfoldable pub kept : Word → List Word → List Word
kept w ws = cond (is_small w) ws (w ∷ ws)

unfoldable pub spoken : List Word → List Word
spoken [] = []
spoken (w ∷ ws) = kept w (spoken ws)

-- the words from a place of a line on
unfoldable pub words_at : List ℕ → ℕ → List Word
words_at s at = spoken (split (drop at s))

-- ---- fields: their text, and the words behind them

abbrev pub Fields : Type 0
Fields = Option (List ℕ × List Word)

unfoldable pub in_front : List ℕ → Fields → Fields
in_front t None = None
in_front t (Some p) = Some (t ++ p.0, p.1)

-- a word behind a space
unfoldable pub spaced : Word → List ℕ
spaced w = code " " ∷ w

unfoldable pub bits_of : Format → Option Float → Option (List ℕ)
bits_of f None = None
bits_of f (Some x) = Some (spaced (float_text f x))

-- a value and a time as their bits, any other word as it is
unfoldable pub field_of : Kind → Word → Option (List ℕ)
field_of Kind.Value w = bits_of binary32 (plain_in binary32 w)
field_of Kind.Time w = bits_of binary64 (plain_in binary64 w)
field_of Kind.AsItIs w = Some (spaced w)

unfoldable pub with_field : Option (List ℕ) → Fields → Fields
with_field None r = None
with_field (Some t) r = in_front t r

-- n fields of a kind
unfoldable pub fields : Kind → ℕ → List Word → Fields
fields k zero ws = Some ([], ws)
fields k (suc n) [] = None
fields k (suc n) (w ∷ ws) = with_field (field_of k w) (fields k n ws)

-- all words that are left, as values, behind how many they are
unfoldable pub numbers : List Word → Fields
numbers ws = in_front (spaced (decimal_of (length ws))) (fields Kind.Value (length ws) ws)

-- the length of the output, where it is not said: the count, or the longest that can be lent
unfoldable pub capped_at : Word → Option ℕ → Word
capped_at w None = w
capped_at w (Some n) = cond (leb n 4096) w (codes "4096")

unfoldable pub length_for : Word → Word
length_for w = capped_at w (number_in 10 w)

-- behind a block's count: the length of its output, and its input
unfoldable pub length_and : Word → List Word → Fields
length_and n [] = in_front (spaced (length_for n)) (numbers [])
length_and n (o ∷ ws) = in_front (spaced o) (numbers ws)

unfoldable pub block_fields : List Word → Fields
block_fields [] = None
block_fields (n ∷ ws) = in_front (spaced n) (length_and n ws)

unfoldable pub and_then : Fields → (List Word → Fields) → Fields
and_then None next = None
and_then (Some p) next = in_front p.0 (next p.1)

-- behind a rate: nothing, or `edition` and its number
unfoldable pub edition_fields : List Word → Fields
edition_fields [] = Some ([], [])
edition_fields (w ∷ ws) = cond (same_word w (codes "edition")) (fields Kind.AsItIs 1 ws) None

unfoldable pub made_fields : List Word → Fields
made_fields ws = and_then (fields Kind.AsItIs 1 ws) edition_fields

-- ---- a call's fields

unfoldable pub tail_of : Tail → List Word → Fields
tail_of (Tail.Fields k n) ws = fields k n ws
tail_of Tail.Numbers ws = numbers ws
tail_of Tail.Block ws = block_fields ws
tail_of Tail.Made ws = made_fields ws

unfoldable pub formed : Form → List Word → Fields
formed f ws = and_then (fields f.kind f.many ws) (tail_of f.tail)

-- a name that no row has says nothing
unfoldable pub formed_by : Option Form → List Word → Fields
formed_by None ws = None
formed_by (Some f) ws = formed f ws

abbrev pub form : Kind → ℕ → Tail → Form
form k n t = record { kind = k; many = n; tail = t }

-- by the first word
pub data Row : Type 0 where
  row : Word → Form → Row

-- the calls that change the waiting events
unfoldable pub scheduling : List Row
scheduling =
    row (codes "set") (form Kind.Value 1 (Tail.Fields Kind.AsItIs 0))
    ∷ row (codes "step") (form Kind.Value 1 (Tail.Fields Kind.Time 1))
    ∷ row (codes "linear") (form Kind.Value 1 (Tail.Fields Kind.Time 1))
    ∷ row (codes "exponential") (form Kind.Value 1 (Tail.Fields Kind.Time 1))
    ∷ row (codes "target") (form Kind.Value 1 (Tail.Fields Kind.Time 2))
    ∷ row (codes "curve") (form Kind.Time 2 Tail.Numbers)
    ∷ row (codes "cancel") (form Kind.Time 1 (Tail.Fields Kind.AsItIs 0))
    ∷ row (codes "hold") (form Kind.Time 1 (Tail.Fields Kind.AsItIs 0)) ∷ []

unfoldable pub rows : List Row
rows =
    row (codes "make") (form Kind.Value 3 Tail.Made)
    ∷ row (codes "block") (form Kind.Time 2 Tail.Block)
    ∷ row (codes "plain") (form Kind.Time 2 Tail.Block)
    ∷ row (codes "state") (form Kind.AsItIs 0 (Tail.Fields Kind.AsItIs 0))
    ∷ row (codes "lend") (form Kind.AsItIs 1 (Tail.Fields Kind.AsItIs 0))
    ∷ row (codes "poke") (form Kind.AsItIs 1 (Tail.Fields Kind.Value 1))
    ∷ row (codes "cost") (form Kind.AsItIs 0 (Tail.Fields Kind.AsItIs 0))
    ∷ scheduling

unfoldable pub form_in : List Row → Word → Option Form
form_in [] w = None
form_in (row x f ∷ rs) w = cond (same_word w x) (Some f) (form_in rs w)

-- ---- a line

unfoldable pub whole : Word → Fields → Option (List ℕ)
whole w None = None
whole w (Some p) = ending p.1 (w ++ p.0)

unfoldable pub translated : List Word → Option (List ℕ)
translated [] = Some []
translated (w ∷ ws) = whole w (formed_by (form_in rows w) ws)

-- the line in the session language, where it can be read
unfoldable pub translation : List ℕ → Option (List ℕ)
translation line = translated (words_at (before (code "#") line) 0)
