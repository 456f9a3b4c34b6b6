-- `offset_of` meets its contract: the offset so far is the length of the events looked at. Assumes nothing.
use mathlib.Core.Path.{◌≡◌}
use lib.ListN.{take}
use Rattle.rules.specs.Queue.{lengths_of}
use Rattle.timeline.specs.Timeline.{waiting}
use Rattle.timeline.proofs.AudioParamEventTimeline.offset_of.Given as goal

abbrev pub invariant-loop-slot : goal.invariant-loop-slot
invariant-loop-slot l = l.offset ≡ lengths_of (take l.slot-index (waiting l.fn.self))
