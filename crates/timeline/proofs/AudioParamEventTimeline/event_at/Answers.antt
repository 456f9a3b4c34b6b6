-- `event_at` meets its contract: a slot in use holds the event that waits there. Assumes nothing.
use mathlib.Core.Path.{◌≡◌}
use native.Mathlib.Omega.{arith}
use lib.ListN.{length}
use Rattle.timeline.specs.Timeline.{waiting}
use Rattle.timeline.proofs.Laws.{count}
use Rattle.timeline.proofs.Steps.{none_there, slot_there}
use Rattle.timeline.proofs.AudioParamEventTimeline.event_at.Goals as goal

pub returns-then-self-i : goal.returns-then-self-i
returns-then-self-i c =
    let a = c.args in
    let n : length (waiting a.self) ≡ a.self.len = count a.self c.requires in
    none_there (waiting a.self) a.i (omega arith)

pub returns : goal.returns
returns c = slot_there c.args.self c.requires c.args.i c.if-self-i.false
