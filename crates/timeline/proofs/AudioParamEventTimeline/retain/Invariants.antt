-- `retain` meets its contract: what the cut leaves of the events looked at waits in a queue of its own. Assumes nothing.
use Prim.Native.Nat.{◌≤◌}
use Rattle.timeline.specs.Timeline.{waiting}
use Rattle.timeline.proofs.Laws.{Filled}
use Rattle.timeline.proofs.Steps.{Kept}
use Rattle.timeline.proofs.AudioParamEventTimeline.retain.Given as goal

abbrev pub invariant-loop-slot : goal.invariant-loop-slot
invariant-loop-slot l = (l.kept.len ≤ l.slot-index) × Filled l.kept.slots l.kept.len (Kept l.equal l.c (waiting l.fn.self) l.slot-index)
