-- `take` meets its contract: with i events taken they are sound, and wait in the slots. Assumes nothing.
use Rattle.timeline.specs.Timeline.{waiting}
use Rattle.param.proofs.Parts.{Took}
use Rattle.param.proofs.taking.take.Given as goal

abbrev pub invariant-loop-i : goal.invariant-loop-i
invariant-loop-i l = Took (waiting l.fn.q) l.played l.used l.before l.i l.slots
