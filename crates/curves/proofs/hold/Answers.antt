-- `hold` meets its contract. Assumes nothing.
use mathlib.Core.Path.{ap, ◌∙◌}
use lib.ListN.{length}
use Rattle.rules.specs.Queue.{attached, held}
use Rattle.timeline.specs.Timeline.{made, waiting}
use Rattle.curves.proofs.Calls.{packed-same, held_queue, held-numbers}
use Rattle.curves.proofs.hold.Goals as goal

pub returns : goal.returns
returns c =
    let a = c.args in
    let q = waiting a.q in
    let o = a.part.now in
    record {
      queue = c.hold.ensures ∙ ap made (held_queue a.c q o);
      part = c.cut.ensures ∙ packed-same (length o) _ (held a.c (attached q o)) (held-numbers a.c q o);
    }
