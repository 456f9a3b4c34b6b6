-- `step` meets its contract. Assumes nothing.
use mathlib.Core.Path.{◌≡◌, ◌∙◌}
use lib.Ieee as Ieee
use Rattle.rules.specs.Numbers.{is_zero}
use Rattle.rules.specs.Walk.{step_time}
use Rattle.plain.proofs.Sees.{infos_is, step_is}
use Rattle.plain.proofs.step.Goals as goal
use Rattle.plain.proofs.step.Goals.{else-time, then-time}

pub returns : goal.returns
unfolding step_time is_zero Ieee.of_bits
returns c = λ f n w e.
    let a = c.args in
    let infos = infos_is f n w e in
    let end : c.if-time.end ≡ step_time f a.time =
    (elim c.if-time.branch [ then-time came ↦ came.end-is ∙ rw (infos, came.if-time.true) | else-time came ↦ came.end-is ∙ rw came.if-time.false ]) in
    rw (end, infos) at (c.run.ensures f n w e) ∙ step_is f n w a.numbers.now a.value a.time
