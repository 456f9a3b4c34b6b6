-- `target_left` meets its contract: it snaps or stays. Assumes nothing.
use mathlib.Core.Path.{sym, ◌∙◌}
use Rattle.automation.proofs.Bodies.{left-stays, left-snaps}
use Rattle.automation.proofs.target_left.Goals as goal

pub returns-then-not-snaps : goal.returns-then-not-snaps
returns-then-not-snaps c =
    let a = c.args in
    rw (c.stop.ensures, c.with_intrinsic.ensures) (left-stays a.infos a.walk a.buffer.now a.head a.target a.value (sym c.snaps.ensures ∙ c.if-not-snaps.true) c.requires)

pub returns : goal.returns
returns c =
    let a = c.args in
    rw (c.stop-2.ensures, c.with_intrinsic-2.ensures)
    (left-snaps a.infos a.walk a.buffer.now a.head a.target a.value (sym c.snaps.ensures ∙ c.if-not-snaps.false) c.requires c.flush.ensures)
