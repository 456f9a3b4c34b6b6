-- Document 01, "Events as they arrive": the queue and the curve store.
use Rattle.rules.specs.declared.Finished.{Finished}
use Rattle.std.specs.Prelude.{Bool, true, false, cond, not, ◌&&◌, ◌||◌, List, [], ◌∷◌, ◌++◌, ℕ, suc, ◌+◌, ◌-◌, length, take, drop, replicate, Float, Option, Some, None}
use Rattle.std.specs.Float.Ieee as Ieee
use Rattle.std.specs.Float.{binary64}
use Rattle.rules.specs.declared.Event.{Event}
use Rattle.rules.specs.Numbers.{plus_zero, store_length, is_zero}

-- ---- an event: "a step, linear ramp, exponential ramp, target or curve, each with its own numbers"

-- a hold time where there is one, else t
unfoldable pub hold_or : Option Float → Float → Float
hold_or None t = t
hold_or (Some c) t = c

-- The time that an event is filed under: "A held ramp must be filed under its hold time, while its slope still uses" its own (02, C-15); all else under its own
-- time. Arrival, cancel, hold and a target's look at the next event all read this one.
unfoldable pub filed_under : Event → Float
filed_under (Event.Step v t) = t
filed_under (Event.Linear v t h) = hold_or h t
filed_under (Event.Exponential v t h) = hold_or h t
filed_under (Event.Target v t c h) = t
filed_under (Event.Curve s d n h) = s

unfoldable pub is_ramp : Event → Bool
is_ramp (Event.Step v t) = false
is_ramp (Event.Linear v t h) = true
is_ramp (Event.Exponential v t h) = true
is_ramp (Event.Target v t c h) = false
is_ramp (Event.Curve s d n h) = false

-- "the end being start plus duration or an earlier hold time" (02, C-14), the sum as rounded
unfoldable pub curve_end : Float → Float → Option Float → Float
curve_end s d h = hold_or h (Ieee.add binary64 s d)

-- "at or after a .. start and before its end"
unfoldable pub is_inside : Float → Float → Float → Bool
is_inside start end t = Ieee.le start t && Ieee.lt t end

-- whether t lies inside an event that is a curve: nothing lies inside any other
unfoldable pub covers : Float → Event → Bool
covers t (Event.Step v u) = false
covers t (Event.Linear v u h) = false
covers t (Event.Exponential v u h) = false
covers t (Event.Target v u c h) = false
covers t (Event.Curve s d n h) = is_inside s (curve_end s d h) t

-- how many numbers of the curve store are the event's
unfoldable pub length_of : Event → ℕ
length_of (Event.Step v t) = 0
length_of (Event.Linear v t h) = 0
length_of (Event.Exponential v t h) = 0
length_of (Event.Target v t c h) = 0
length_of (Event.Curve s d n h) = n

-- "A target with time constant 0 is stored as a step (Web Audio)."
unfoldable pub target_event : Float → Float → Float → Event
target_event v t c = cond (is_zero c) (Event.Step v t) (Event.Target v t c None)

-- ---- a waiting event, with its curve's numbers (none for the other kinds)

pub record Waiting : Type 0 where
  pub event : Event
  pub numbers : List Float

abbrev pub alone : Event → Waiting
alone e = record { event = e; numbers = [] }

unfoldable pub head_of : List Waiting → Option Event
head_of [] = None
head_of (w ∷ ws) = Some w.event

unfoldable pub events_of : List Waiting → List Event
events_of [] = []
events_of (w ∷ ws) = w.event ∷ events_of ws

-- the numbers of all waiting curves, "end to end in queue order"
unfoldable pub numbers_of : List Waiting → List Float
numbers_of [] = []
numbers_of (w ∷ ws) = w.numbers ++ numbers_of ws

-- "after each answered call that is lent the store, it holds the waiting curves' numbers .. end to end in queue order, then zeros"
unfoldable pub packed : List Waiting → List Float
packed ws = numbers_of ws ++ replicate (store_length - length (numbers_of ws)) plus_zero

-- the waiting events, with their numbers "as read from" the store
unfoldable pub attached : List Event → List Float → List Waiting
attached [] store = []
attached (e ∷ es) store = record { event = e; numbers = take (length_of e) store } ∷ attached es (drop (length_of e) store)

-- how many numbers the waiting curves have
unfoldable pub lengths_of : List Event → ℕ
lengths_of [] = 0
lengths_of (e ∷ es) = length_of e + lengths_of es

-- ---- what lies inside a curve (02, C-14): an event's time is the one that it is filed under

unfoldable pub any : (Event → Bool) → List Event → Bool
any test [] = false
any test (e ∷ es) = test e || any test es

-- "an event whose time lies at or after a waiting curve's start and before its end"
unfoldable pub any_covers : Float → List Event → Bool
any_covers t q = any (covers t) q

-- "a curve whose own span, from its start up to but without its end, holds a waiting event's time"
unfoldable pub is_filed_inside : Float → Float → Event → Bool
is_filed_inside start end e = is_inside start end (filed_under e)

unfoldable pub any_inside : Float → Float → List Event → Bool
any_inside start end q = any (is_filed_inside start end) q

-- ---- arrival: "It goes behind all events of equal or smaller time"

-- whether an event of equal or smaller time than t is among these
unfoldable pub has_not_later : Float → List Event → Bool
has_not_later t [] = false
has_not_later t (e ∷ es) = let more = has_not_later t es in Ieee.le (filed_under e) t || more

-- how many events stand up to the last one of equal or smaller time than t
unfoldable pub place_behind : Float → List Event → ℕ
place_behind t [] = 0
place_behind t (e ∷ es) = let more = place_behind t es in cond (has_not_later t (e ∷ es)) (suc more) 0

-- a list with x at the place n
unfoldable pub put_at : {A : Type 0} → ℕ → A → List A → List A
put_at n x xs = take n xs ++ (x ∷ drop n xs)

unfoldable pub inserted : Waiting → List Waiting → List Waiting
inserted w ws = put_at (place_behind (filed_under w.event) (events_of ws)) w ws

-- the same of events whose curves stay as they are: no store is lent, and none is read
unfoldable pub arrived : Event → List Event → List Event
arrived e es = put_at (place_behind (filed_under e) es) e es

-- ---- cancel at c: an event's time is the one that it is filed under, here and in a hold

-- those of a list that pass a test, in their order
unfoldable pub those : {A : Type 0} → (A → Bool) → List A → List A
those test [] = []
those test (x ∷ xs) = let more = those test xs in cond (test x) (x ∷ more) more

-- whether "the cancel time is at or before" the end of an event that is a curve: "start plus duration, or its hold time if it has one" (02, C-12)
unfoldable pub lasts_to : Float → Event → Bool
lasts_to c (Event.Step v t) = false
lasts_to c (Event.Linear v t h) = false
lasts_to c (Event.Exponential v t h) = false
lasts_to c (Event.Target v t k h) = false
lasts_to c (Event.Curve s d n h) = Ieee.le c (curve_end s d h)

-- "Cancel at c removes every event whose time is at or after c"; "a curve also goes if" it lasts to c (02, C-12)
unfoldable pub goes_at : Float → Event → Bool
goes_at c e = not (Ieee.lt (filed_under e) c) || lasts_to c e

-- over by c: what a cancel leaves
unfoldable pub is_before : Float → Waiting → Bool
is_before c w = not (goes_at c w.event)

unfoldable pub cancelled : Float → List Waiting → List Waiting
cancelled c ws = those (is_before c) ws

-- whether a time is "by the last answered block's end": with no block answered, none is
unfoldable pub is_by : Option Float → Float → Bool
is_by None t = false
is_by (Some end) t = Ieee.le t end

-- whether an event is a curve that "had started by the last answered block's end", by the two times alone (02, C-12)
unfoldable pub has_started : Option Float → Event → Bool
has_started end (Event.Step v t) = false
has_started end (Event.Linear v t h) = false
has_started end (Event.Exponential v t h) = false
has_started end (Event.Target v t c h) = false
has_started end (Event.Curve s d n h) = is_by end s

-- whether "the head was a ramp and is removed" (01), or a curve that had started (02, C-12)
unfoldable pub loses_head : Float → Option Float → Option Event → Bool
loses_head c end None = false
loses_head c end (Some e) = goes_at c e && (is_ramp e || has_started end e)

-- "the intrinsic value returns to the last event's value, if there is one"
unfoldable pub returned : Option Finished → Float → Float
returned None v = v
returned (Some l) v = l.value

unfoldable pub value_after_cancel : Float → Option Float → List Waiting → Option Finished → Float → Float
value_after_cancel c end ws l v = cond (loses_head c end (head_of ws)) (returned l v) v

-- ---- cancel-and-hold at c

-- "it gets hold time c"; "An existing hold time only moves earlier (ours)."
unfoldable pub sooner : Option Float → Float → Option Float
sooner None c = Some c
sooner (Some h) c = cond (Ieee.lt h c) (Some h) (Some c)

-- a step has no hold time, and is never held
unfoldable pub held_event : Float → Event → Event
held_event c (Event.Step v t) = Event.Step v t
held_event c (Event.Linear v t h) = Event.Linear v t (sooner h c)
held_event c (Event.Exponential v t h) = Event.Exponential v t (sooner h c)
held_event c (Event.Target v t k h) = Event.Target v t k (sooner h c)
held_event c (Event.Curve s d n h) = Event.Curve s d n (sooner h c)

unfoldable pub held_at : Float → Waiting → Waiting
held_at c w = record { event = held_event c w.event; numbers = w.numbers }

-- "a target, or a curve with c before start plus duration"
unfoldable pub runs_at : Float → Event → Bool
runs_at c (Event.Step v t) = false
runs_at c (Event.Linear v t h) = false
runs_at c (Event.Exponential v t h) = false
runs_at c (Event.Target v t k h) = true
runs_at c (Event.Curve s d n h) = Ieee.lt c (Ieee.add binary64 s d)

-- "later than c"
unfoldable pub is_later : Float → Waiting → Bool
is_later c w = Ieee.lt c (filed_under w.event)

unfoldable pub is_not_later : Float → Waiting → Bool
is_not_later c w = not (is_later c w)

unfoldable pub held_if_running : Float → Waiting → Waiting
held_if_running c w = cond (runs_at c w.event) (held_at c w) w

-- "if the last event at or before c is [such a one], that one gets hold time c": these are the events at or before c
unfoldable pub last_held : Float → List Waiting → List Waiting
last_held c [] = []
last_held c (w ∷ []) = held_if_running c w ∷ []
last_held c (w ∷ x ∷ ws) = w ∷ last_held c (x ∷ ws)

-- "if it is a ramp", but "a cancel-and-hold at or after a waiting curve's start and before its end holds that curve, as if no ramp followed" (02, C-14). A curve with c
-- inside starts at or before c, and is the last such one: nothing is filed inside it.
unfoldable pub holds_ramp : Float → List Waiting → Waiting → Bool
holds_ramp c ws x = is_ramp x.event && not (any_covers c (events_of ws))

-- by the events ws at or before c and the first later one: "it gets hold time c", and alone of the later ones it stays
unfoldable pub held_by : Float → List Waiting → List Waiting → List Waiting
held_by c ws [] = last_held c ws
held_by c ws (x ∷ xs) = cond (holds_ramp c ws x) (ws ++ (held_at c x ∷ [])) (last_held c ws)

-- "Then all events later than c go, but for the ramp just held."
unfoldable pub held : Float → List Waiting → List Waiting
held c ws = held_by c (those (is_not_later c) ws) (those (is_later c) ws)

-- "removed by any cancel": a hold takes a curve from the head where it starts later than c. A ramp it never takes from there.
unfoldable pub loses_curve : Float → Option Float → Option Event → Bool
loses_curve c end None = false
loses_curve c end (Some e) = Ieee.lt c (filed_under e) && has_started end e

unfoldable pub value_after_hold : Float → Option Float → List Waiting → Option Finished → Float → Float
value_after_hold c end ws l v = cond (loses_curve c end (head_of ws)) (returned l v) v
