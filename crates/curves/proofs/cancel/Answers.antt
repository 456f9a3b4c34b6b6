-- `cancel` meets its contract. Assumes nothing.
use mathlib.Core.Path.{ap, ◌∙◌}
use Rattle.rules.specs.Queue.{cancelled}
use Rattle.timeline.specs.Timeline.{made, waiting, is_kept}
use Rattle.curves.proofs.Calls.{cancelled_events}
use Rattle.curves.proofs.cancel.Goals as goal

pub returns : goal.returns
unfolding is_kept cancelled
returns c =
    let a = c.args in
    record {
      queue = c.retain.ensures ∙ ap made (cancelled_events a.c (waiting a.q) a.part.now);
      part = c.cut.ensures;
    }
