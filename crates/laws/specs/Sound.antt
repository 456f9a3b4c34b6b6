-- A parameter's invariant: what holds of each one that comes from the calls. Every part is a test, so that code can make it.
use Rattle.rules.specs.declared.Finished.{Finished}
use Rattle.std.specs.Prelude.{◌≡◌, Bool, true, false, not, ◌&&◌, ◌||◌, List, [], ◌∷◌, ℕ, ◌≤◌, leb, length, Float, Option, Some, None}
use Rattle.std.specs.Float.Ieee as Ieee
use Rattle.std.specs.Float.{nan, inf, fin, binary64}
use Rattle.rules.specs.declared.Event.{Event}
use Rattle.rules.specs.Numbers.{most_events, store_length, plus_zero, is_finite, is_zero, later_of}
use Rattle.rules.specs.Queue.{filed_under, curve_end, lengths_of}
use Rattle.rules.specs.Refusals.{are_bounds, is_period}
use Rattle.rules.specs.Block.{Param}

-- ---- times

-- no NaN: what has a place in the order. An infinity has one (DECISIONS, reading 13).
unfoldable pub is_number : Float → Bool
is_number x = not (Ieee.is_nan x)

-- at or above +0, never -0; +infinity is
unfoldable pub is_from_zero : Float → Bool
is_from_zero nan = false
is_from_zero (inf s) = not s
is_from_zero (fin s m e) = not s

-- a time as the calls take it: finite (refusals 2 and 9), not below 0 (3 and 9), and "a time of −0 .. is taken as 0"
unfoldable pub is_taken : Float → Bool
is_taken t = is_finite t && is_from_zero t

unfoldable pub is_taken_if_any : Option Float → Bool
is_taken_if_any None = true
is_taken_if_any (Some t) = is_taken t

-- A ramp is held at or before its own time: a hold at c finds it where it is filed under a later one. So is a curve at or before start + duration.
unfoldable pub is_held_by : Float → Option Float → Bool
is_held_by t None = true
is_held_by t (Some c) = Ieee.le c t

-- A curve is held at its start or later: a hold at c finds it where it starts at or before c.
unfoldable pub is_held_from : Float → Option Float → Bool
is_held_from s None = true
is_held_from s (Some c) = Ieee.le s c

-- ---- a waiting event

-- what a curve has at least, by refusal 6: "curve of fewer than 2 numbers"
abbrev pub fewest_numbers : ℕ
fewest_numbers = 2

-- a ramp's time, and its hold time where it has one
unfoldable pub is_span : Float → Option Float → Bool
is_span t h = is_taken t && (is_taken_if_any h && is_held_by t h)

-- a curve's hold time, where it has one
unfoldable pub is_curve_hold : Float → Float → Option Float → Bool
is_curve_hold s d h = is_taken_if_any h && (is_held_from s h && is_held_by (Ieee.add binary64 s d) h)

-- Its numbers are as the calls let them in: values finite, an exponential's not 0, times taken, a time constant and a duration finite and above 0 (as a period is), 2
-- numbers of a curve or more. A step alone may be at +infinity: a target that snapped left it, at a next block time that is (DECISIONS, reading 13).
unfoldable pub is_clear : Event → Bool
is_clear (Event.Step v t) = is_finite v && is_from_zero t
is_clear (Event.Linear v t h) = is_finite v && is_span t h
is_clear (Event.Exponential v t h) = is_finite v && (not (is_zero v) && is_span t h)
is_clear (Event.Target v t c h) = is_finite v && (is_taken t && (is_period c && is_taken_if_any h))
is_clear (Event.Curve s d n h) = is_taken s && (is_period d && (is_curve_hold s d h && leb fewest_numbers n))

-- before the first answered block no event is at +infinity: no target has snapped
unfoldable pub is_due : Bool → Event → Bool
is_due played e = played || is_finite (filed_under e)

-- ---- the queue

-- whether every event passes a test
unfoldable pub all : (Event → Bool) → List Event → Bool
all test [] = true
all test (e ∷ es) = test e && all test es

abbrev pub are_clear : List Event → Bool
are_clear q = all is_clear q

abbrev pub are_due : Bool → List Event → Bool
are_due played q = all (is_due played) q

-- How far an event reaches: a curve to its end, all else to the time that it is filed under. (Of 64-bit floats start + duration is never before the start. Here floats
-- can be of any length, so the later of both is said.)
unfoldable pub reach_of : Event → Float
reach_of (Event.Step v t) = filed_under (Event.Step v t)
reach_of (Event.Linear v t h) = filed_under (Event.Linear v t h)
reach_of (Event.Exponential v t h) = filed_under (Event.Exponential v t h)
reach_of (Event.Target v t c h) = filed_under (Event.Target v t c h)
reach_of (Event.Curve s d n h) = later_of s (curve_end s d h)

-- whether the first of these, if any, is at t or later
unfoldable pub goes_before : Float → List Event → Bool
goes_before t [] = true
goes_before t (e ∷ es) = Ieee.le t (filed_under e)

-- each event reaches no further than the time that the next one is filed under, so that none is inside a curve before it (02, C-14)
unfoldable pub in_order : List Event → Bool
in_order [] = true
in_order (e ∷ es) = goes_before (reach_of e) es && in_order es

-- at most 64 wait, in order, and their curves have room in the store
pub record SoundQueue (q : List Event) : Type 0 where
  pub few : length q ≤ most_events
  pub ordered : in_order q ≡ true
  pub clear : are_clear q ≡ true
  pub room : lengths_of q ≤ store_length

unfoldable pub is_sound_queue : List Event → Bool
is_sound_queue q = leb (length q) most_events && (in_order q && (are_clear q && leb (lengths_of q) store_length))

-- ---- the parameter

-- the last event's time, from which a ramp counts, is a number; its value may be NaN
unfoldable pub is_last_clear : Option Finished → Bool
is_last_clear None = true
is_last_clear (Some l) = is_number l.time

-- whether a block was answered
unfoldable pub has_played : Option Float → Bool
has_played None = false
has_played (Some t) = true

-- Whether a block at t can have this end: at or above t, +infinity too, never -0. (Of a 64-bit float 0 + t is t itself. Here floats can be of any length, so the nearest
-- one of 64 bits is compared.)
unfoldable pub is_end_of : Float → Float → Bool
is_end_of t end = is_from_zero end && not (Ieee.lt end (Ieee.add binary64 plus_zero t))

-- The last block's time and its end: both, or neither. The time is as a block's is taken, so a block that is answered is at it or later.
unfoldable pub are_block_times : Option Float → Option Float → Bool
are_block_times None None = true
are_block_times None (Some end) = false
are_block_times (Some t) None = false
are_block_times (Some t) (Some end) = is_taken t && is_end_of t end

-- The intrinsic value may be NaN (DECISIONS, reading 13).
pub record Sound (p : Param) : Type 0 where
  pub waiting : SoundQueue p.queue
  pub due : are_due (has_played p.last_block) p.queue ≡ true
  pub bounded : are_bounds p.bounds ≡ true
  pub last : is_last_clear p.last ≡ true
  pub block : are_block_times p.last_block p.last_end ≡ true

unfoldable pub is_sound : Param → Bool
is_sound p =
    is_sound_queue p.queue
    && (are_due (has_played p.last_block) p.queue && (are_bounds p.bounds && (is_last_clear p.last && are_block_times p.last_block p.last_end)))
