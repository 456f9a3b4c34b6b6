-- Refusal 11 (document 02, C-14): "an event whose time lies at or after a waiting curve's start and before its end, a curve whose own span .. holds a waiting
-- event's time, or whose start lies inside a waiting curve's span". Which curve or which event that is, and that in words.
use Rattle.std.specs.Prelude.{List, ◌++◌, ℕ, Float, Option, None, Some}
use Rattle.std.specs.Float.{binary64}
use Rattle.std.specs.Option.{option_or}
use Rattle.rules.specs.declared.Event.{Event}
use Rattle.rules.specs.Numbers.{plus_zero, taken_time}
use Rattle.rules.specs.Queue.{filed_under, curve_end, covers, is_filed_inside, those}
use Rattle.timeline.specs.Timeline.{first_of}
use Rattle.calls.specs.declared.Call.{Call}
use Rattle.decimal.specs.Codes.{codes}
use Rattle.decimal.specs.Shown.{plain_text}
use Rattle.replies.specs.Plain.{table, meaning_in}
use Rattle.clashes.specs.declared.Clash.{Clash}

-- ---- what is in the way

-- a curve, from its start to its end; no other event has times inside
unfoldable pub span_of : Event → Option Clash
span_of (Event.Step v t) = None
span_of (Event.Linear v t h) = None
span_of (Event.Exponential v t h) = None
span_of (Event.Target v t c h) = None
span_of (Event.Curve s d n h) = Some (Clash.Curve s (curve_end s d h))

unfoldable pub curve_in : Option Event → Option Clash
curve_in None = None
curve_in (Some e) = span_of e

-- an event, by the time that it is filed under
unfoldable pub event_in : Option Event → Option Clash
event_in None = None
event_in (Some e) = Some (Clash.Event (filed_under e))

-- "an event whose time lies at or after a waiting curve's start and before its end": the first such curve
unfoldable pub covered_by : List Event → Float → Option Clash
covered_by q t = curve_in (first_of (those (covers (taken_time t)) q))

-- "a curve whose own span .. holds a waiting event's time": the first such event
unfoldable pub holding : List Event → Float → Float → Option Clash
holding q t d = let start = taken_time t in event_in (first_of (those (is_filed_inside start (curve_end start d None)) q))

-- what a call runs into, a line that is not read being none: "An immediate set is a step at time 0"; of a curve, first the curve that its "start lies inside"
unfoldable pub clash_of : List Event → Option Call → Option Clash
clash_of q None = None
clash_of q (Some Call.Nothing) = None
clash_of q (Some (Call.Make b rate n)) = None
clash_of q (Some (Call.Set v)) = covered_by q plus_zero
clash_of q (Some (Call.Step v t)) = covered_by q t
clash_of q (Some (Call.Linear v t)) = covered_by q t
clash_of q (Some (Call.Exponential v t)) = covered_by q t
clash_of q (Some (Call.Target v t c)) = covered_by q t
clash_of q (Some (Call.Curve t d n)) = option_or (covered_by q t) (holding q t d)
clash_of q (Some (Call.Cancel t)) = None
clash_of q (Some (Call.Hold t)) = None
clash_of q (Some (Call.Block by t p n o i)) = None
clash_of q (Some (Call.Lend n)) = None
clash_of q (Some (Call.Poke i v)) = None
clash_of q (Some Call.State) = None
clash_of q (Some Call.Save) = None
clash_of q (Some (Call.Load part n rate edition)) = None

-- ---- in words

-- what stands behind `refused 11`: by what is in the way, else what 11 means
unfoldable pub clash_text : Option Clash → List ℕ
clash_text None = meaning_in table 11
clash_text (Some (Clash.Curve s e)) = codes ": inside the curve from " ++ (plain_text binary64 s ++ (codes " to " ++ plain_text binary64 e))
clash_text (Some (Clash.Event t)) = codes ": the event at " ++ (plain_text binary64 t ++ codes " would be inside this curve")
