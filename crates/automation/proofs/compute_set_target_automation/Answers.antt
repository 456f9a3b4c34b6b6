-- `compute_set_target_automation` meets its contract: it waits, or runs. Assumes nothing.
use mathlib.Core.Path.{refl}
use Rattle.automation.proofs.Bodies.{ready_as, stays, target_waits, target_is}
use Rattle.automation.proofs.compute_set_target_automation.Goals as goal

pub returns-then-time-infos : goal.returns-then-time-infos
returns-then-time-infos c =
    rw (
      c.stop.ensures,
      c.with_last-w.ensures,
      target_waits c.args.infos c.args.walk c.args.buffer.now c.start_of-last_event.ensures _ _ _ _ _ _ c.if-time-infos.true,
    )
    (stays c.requires.filled)

pub target_run-requires : goal.target_run-requires
target_run-requires c = rw c.with_last-w.ensures (ready_as c.requires refl refl)

pub returns : goal.returns
returns c =
    let a = c.args in
    rw (target_is a.infos a.walk a.buffer.now c.start_of-last_event.ensures _ _ _ _ _ _ c.if-time-infos.false)
    (rw (c.with_last-w.ensures, c.end_by_hold-ended.ensures, c.end_by_next.ensures) at c.target_run.ensures)
