-- `with_edition` meets its contract. Assumes nothing.
use mathlib.Core.Path.{sym, ◌∙◌}
use Rattle.rules.specs.Block.{made, made_as}
use Rattle.param.proofs.Calls.{makes}
use Rattle.param.proofs.AudioParam.with_edition.Goals as goal

pub returns-in-Ok : goal.returns-in-Ok
unfolding made made_as
returns-in-Ok c =
    let verdict = c.making-verdict.ensures in
    makes (verdict) (rw (← verdict, c.in-Ok.is) (c.fresh-param.ensures ∙ rw c.edition_of.ensures))

pub returns-in-Err : goal.returns-in-Err
unfolding made made_as
returns-in-Err c =
    let verdict = c.making-verdict.ensures in
    makes (rw (c.refused.ensures, ← verdict) (sym c.in-Err.is)) (rw (c.refused.ensures, ← verdict, c.in-Err.is))
