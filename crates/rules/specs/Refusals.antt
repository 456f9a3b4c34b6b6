-- Document 01, "Refusal numbers": when each call is refused, and with which number.
use Rattle.std.specs.Prelude.{Bool, true, false, not, ◌&&◌, ◌||◌, List, [], ◌∷◌, ℕ, ◌+◌, leb, ltb, eqb, length, Float, Option, Some, None, Result, Ok, Err}
use Rattle.std.specs.Float.Ieee as Ieee
use Rattle.rules.specs.declared.Bounds.{Bounds}
use Rattle.rules.specs.declared.Event.{Event}
use Rattle.rules.specs.declared.Refusal.{Refusal}
use Rattle.rules.specs.Numbers.{most_events, store_length, is_finite, is_zero, is_positive, is_negative, taken_time}
use Rattle.rules.specs.Queue.{lengths_of, curve_end, any_covers, any_inside}

-- document 01's numbers, and 02's
unfoldable pub number_of : Refusal → ℕ
number_of Refusal.Bounds = 1
number_of Refusal.NotFinite = 2
number_of Refusal.BeforeZero = 3
number_of Refusal.NotAbove = 4
number_of Refusal.ZeroTarget = 5
number_of Refusal.ShortCurve = 6
number_of Refusal.QueueFull = 7
number_of Refusal.StoreFull = 8
number_of Refusal.BadBlock = 9
number_of Refusal.OutOfOrder = 10
number_of Refusal.Inside = 11
number_of Refusal.UnknownEdition = 12
number_of Refusal.BadStore = 14

-- the order in which they are given: that of their numbers, but 11 "after 6 and before 7 and 8" (02, C-14)
unfoldable pub rank_of : Refusal → ℕ
rank_of Refusal.Bounds = 1
rank_of Refusal.NotFinite = 2
rank_of Refusal.BeforeZero = 3
rank_of Refusal.NotAbove = 4
rank_of Refusal.ZeroTarget = 5
rank_of Refusal.ShortCurve = 6
rank_of Refusal.Inside = 7
rank_of Refusal.QueueFull = 8
rank_of Refusal.StoreFull = 9
rank_of Refusal.BadBlock = 10
rank_of Refusal.OutOfOrder = 11
rank_of Refusal.UnknownEdition = 12
rank_of Refusal.BadStore = 13

-- one row of the table: a refusal, and whether it applies
pub data Row : Type 0 where
  row : Refusal → Bool → Row

-- "If several apply, the lowest number is given": the first row that applies, the rows of each call standing in the order of their ranks
unfoldable pub lowest : List Row → Result Unit Refusal
lowest [] = Ok tt
lowest (row r true ∷ rows) = Err r
lowest (row r false ∷ rows) = lowest rows

unfoldable pub all_finite : List Float → Bool
all_finite [] = true
all_finite (x ∷ xs) = is_finite x && all_finite xs

-- ---- rows that several calls have

-- 2: "a value, time, time constant, duration or curve number is not finite"
abbrev pub finite_row : List Float → Row
finite_row xs = row Refusal.NotFinite (not (all_finite xs))

-- 3: "a scheduled or cancel time is below 0"
abbrev pub time_row : Float → Row
time_row t = row Refusal.BeforeZero (is_negative t)

-- 7: "64 events already wait"
abbrev pub full_row : List Event → Row
full_row q = row Refusal.QueueFull (leb most_events (length q))

-- 11: "an event whose time lies at or after a waiting curve's start and before its end"
abbrev pub inside_row : List Event → Float → Row
inside_row q t = row Refusal.Inside (any_covers (taken_time t) q)

-- 11 for a curve: "whose own span .. holds a waiting event's time, or whose start lies inside a waiting curve's span"
unfoldable pub is_crossed : List Event → Float → Float → Bool
is_crossed q start d = any_covers start q || any_inside start (curve_end start d None) q

-- 14: "the curve store lent to a call is not exactly 4,096 numbers long"
abbrev pub store_row : List Float → Row
store_row store = row Refusal.BadStore (not (eqb (length store) store_length))

-- ---- each call's rows

-- making. 1: "a bound or the default is not finite, or not min ≤ default ≤ max"
unfoldable pub are_bounds : Bounds → Bool
are_bounds b = all_finite (b.min ∷ b.default ∷ b.max ∷ []) && (Ieee.le b.min b.default && Ieee.le b.default b.max)

-- "made under one of the two editions", by its number
unfoldable pub is_edition : ℕ → Bool
is_edition n = eqb n 1 || eqb n 2

-- 12: "an unknown edition gets 12, after 1" (02, C-19)
unfoldable pub making_rows : Bounds → ℕ → List Row
making_rows b n = row Refusal.Bounds (not (are_bounds b)) ∷ row Refusal.UnknownEdition (not (is_edition n)) ∷ []

-- a step or a linear ramp
unfoldable pub value_rows : List Event → Float → Float → List Row
value_rows q v t = finite_row (v ∷ t ∷ []) ∷ time_row t ∷ inside_row q t ∷ full_row q ∷ []

-- 5: "exponential target equal to 0"
unfoldable pub exponential_rows : List Event → Float → Float → List Row
exponential_rows q v t = finite_row (v ∷ t ∷ []) ∷ time_row t ∷ row Refusal.ZeroTarget (is_zero v) ∷ inside_row q t ∷ full_row q ∷ []

-- 4: "time constant below 0"
unfoldable pub target_rows : List Event → Float → Float → Float → List Row
target_rows q v t c = finite_row (v ∷ t ∷ c ∷ []) ∷ time_row t ∷ row Refusal.NotAbove (is_negative c) ∷ inside_row q t ∷ full_row q ∷ []

-- 4: "or duration not above 0"; 6: "curve of fewer than 2 numbers"; 8: "waiting curve lengths plus the new one exceed 4,096"
unfoldable pub curve_rows : List Event → List Float → Float → Float → List Float → List Row
curve_rows q store t d xs =
    finite_row (t ∷ d ∷ xs) ∷ time_row t ∷ row Refusal.NotAbove (not (is_positive d)) ∷ row Refusal.ShortCurve (ltb (length xs) 2)
    ∷ row Refusal.Inside (is_crossed q (taken_time t) d) ∷ full_row q ∷ row Refusal.StoreFull (ltb store_length (lengths_of q + length xs)) ∷ store_row store ∷ []

-- cancel, and cancel-and-hold: "Cancel is never refused by 7 or 8."
unfoldable pub cancel_rows : List Float → Float → List Row
cancel_rows store c = finite_row (c ∷ []) ∷ time_row c ∷ store_row store ∷ []

-- ---- the block

-- "block time not finite or below 0"
unfoldable pub is_time : Float → Bool
is_time t = is_finite t && not (is_negative t)

-- "sample period not finite or not above 0"
unfoldable pub is_period : Float → Bool
is_period t = is_finite t && is_positive t

-- "count not 1 to 128": "9 uses the edition's ceiling" (02, C-19)
unfoldable pub is_count : ℕ → ℕ → Bool
is_count most n = leb 1 n && leb n most

-- "input length neither 0 nor count"
unfoldable pub fits_count : List Float → ℕ → Bool
fits_count [] count = true
fits_count (x ∷ xs) count = eqb (length (x ∷ xs)) count

-- 9 applies where this is false; "output shorter than count" is among it
unfoldable pub is_block : ℕ → Float → Float → ℕ → List Float → List Float → Bool
is_block most t period count input output = is_time t && (is_period period && (is_count most count && (leb count (length output) && fits_count input count)))

-- 10: "block time below that of the last answered block"
unfoldable pub is_earlier : Option Float → Float → Bool
is_earlier None t = false
is_earlier (Some last) t = Ieee.lt t last

unfoldable pub block_rows : ℕ → Option Float → List Float → Float → Float → ℕ → List Float → List Float → List Row
block_rows most last store t period count input output =
    row Refusal.BadBlock (not (is_block most t period count input output)) ∷ row Refusal.OutOfOrder (is_earlier last t) ∷ store_row store ∷ []
