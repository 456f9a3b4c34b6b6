-- `drop_heads` meets its contract: the slots behind the first n are copied to the front of blank ones. Assumes nothing.
use mathlib.Core.Path.{◌≡◌}
use mathlib.Core.List.{List, [], ◌++◌, map}
use Prim.Native.Nat.{◌≤◌}
use native.Mathlib.Omega.{arith}
use lib.ListN.{length, drop, length-map, length-drop}
use Rattle.rules.specs.Numbers.{most_events}
use Rattle.rules.specs.declared.Event.{Event}
use Rattle.timeline.specs.declared.AudioParamEvent.{AudioParamEvent}
use Rattle.timeline.specs.declared.AudioParamEventTimeline.{AudioParamEventTimeline}
use Rattle.timeline.specs.Timeline.{made, slot_of, waiting}
use Rattle.timeline.proofs.Laws.{count, filled_front, filled-made, behind_first}
use Rattle.timeline.proofs.AudioParamEventTimeline.drop_heads.Goals as goal

copied : (es : List Event) → length es ≤ most_events → (s t : List AudioParamEvent) → s ≡ t → t ≡ map slot_of es → (k : AudioParamEventTimeline) → k ≡ made []
    → ◌≡◌ {A = AudioParamEventTimeline} (record { slots = s ++ drop (length t) k.slots; len = length t }) (made es)
copied es h s t e f k g = rw (e, f, g, length-map es slot_of) (filled-made (filled_front es h))

pub returns : goal.returns
returns c =
    let q = c.args.self in
    let few : q.len ≤ most_events = c.requires.few in
    copied (drop c.args.n (waiting q)) (simp length-drop (omega (arith, count q c.requires))) _ _ c.copy_from_slice.ensures.after
    (behind_first q c.requires c.args.n c.min.result c.min.ensures) c.new.result c.new.ensures
