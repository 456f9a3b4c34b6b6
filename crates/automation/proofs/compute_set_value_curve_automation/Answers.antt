-- `compute_set_value_curve_automation` meets its contract: it waits, or is a span. Assumes nothing.
use Rattle.automation.proofs.Bodies.{stays, curve_waits, curve_is}
use Rattle.automation.proofs.compute_set_value_curve_automation.Goals as goal

pub returns-then-start-infos : goal.returns-then-start-infos
returns-then-start-infos c =
    rw (c.stop.ensures, curve_waits c.args.infos c.args.walk c.args.buffer.now _ _ _ _ c.if-start-infos.true) (stays c.requires.0.filled)

pub returns : goal.returns
returns c =
    let a = c.args in
    rw (curve_is a.infos a.walk a.buffer.now _ _ _ _ c.if-start-infos.false) c.curve_span.ensures
