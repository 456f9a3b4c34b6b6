-- The queue of one parameter: which events wait in it, and the one queue in which given events wait.
use Rattle.std.specs.Prelude.{◌≡◌, Bool, true, false, List, [], ◌∷◌, ◌++◌, map, ◌-◌, ◌≤◌, set, length, take, replicate, Float, Option, Some, None}
use Rattle.rules.specs.declared.Event.{Event}
use Rattle.rules.specs.Numbers.{most_events, plus_zero}
use Rattle.rules.specs.Queue.{Waiting, alone, is_before, is_not_later}
use Rattle.timeline.specs.declared.AudioParamEvent.{AudioParamEvent}
use Rattle.timeline.specs.declared.AudioParamEventTimeline.{AudioParamEventTimeline}

-- what stands in the slot of a waiting event
abbrev pub slot_of : Event → AudioParamEvent
slot_of e = record { event = e }

-- what stands in a slot behind the last waiting event
abbrev pub blank_event : Event
blank_event = Event.Step plus_zero plus_zero

-- the events of all the slots where these wait
unfoldable pub padded : List Event → List Event
padded es = es ++ replicate (most_events - length es) blank_event

-- the one queue in which these events wait
unfoldable pub made : List Event → AudioParamEventTimeline
made es = record { slots = map slot_of (padded es); len = length es }

-- the events that wait, in their order
abbrev pub waiting : AudioParamEventTimeline → List Event
waiting q = map (λ (s : AudioParamEvent). s.event) (take q.len q.slots)

-- what every queue is that this crate gives back
pub record Neat (q : AudioParamEventTimeline) : Type 0 where
  pub few : q.len ≤ most_events
  pub clean : q ≡ made (waiting q)

-- the first of these events
unfoldable pub first_of : List Event → Option Event
first_of [] = None
first_of (e ∷ es) = Some e

-- these events, the first of which has become another
unfoldable pub head_as : Option Event → List Event → List Event
head_as None es = es
head_as (Some e) es = set es 0 e

-- the queue with another first slot
abbrev pub beginning : AudioParamEvent → AudioParamEventTimeline → AudioParamEventTimeline
beginning s q = record { slots = set q.slots 0 s; len = q.len }

-- what a cut at c leaves: the events that a cancel does not take; or all but those later than c, as cancel-and-hold does
unfoldable pub is_kept : Bool → Float → Waiting → Bool
is_kept false c w = is_before c w
is_kept true c w = is_not_later c w

-- the same test of an event whose numbers do not matter
abbrev pub stays : Bool → Float → Event → Bool
stays equal c e = is_kept equal c (alone e)
