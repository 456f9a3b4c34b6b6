-- `place_behind` meets its contract: from i on every event is later, so the place is that among the first i. Assumes nothing.
use mathlib.Core.Path.{◌≡◌}
use lib.ListN.{take}
use Rattle.rules.specs.Queue.{place_behind}
use Rattle.timeline.specs.Timeline.{waiting}
use Rattle.timeline.proofs.AudioParamEventTimeline.place_behind.Given as goal

abbrev pub invariant-loop-i : goal.invariant-loop-i
invariant-loop-i l = place_behind l.time (waiting l.self) ≡ place_behind l.time (take l.i (waiting l.self))
