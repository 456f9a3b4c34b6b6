-- `compute_buffer` meets its contract: the loop goes on as the rules' walk, head by head. Assumes nothing.
use Rattle.timeline.specs.Timeline.{waiting}
use Rattle.automation.specs.Walks.{walk_as}
use Rattle.automation.proofs.Heads.{Going}
use Rattle.automation.proofs.compute_buffer.Given as goal

abbrev pub invariant-loop-at : goal.invariant-loop-at
invariant-loop-at l =
    Going l.infos (waiting l.fn.timeline) l.store (walk_as l.initial.walk l.initial.buffer) l.initial.buffer l.walk l.buffer l.at l.offset
