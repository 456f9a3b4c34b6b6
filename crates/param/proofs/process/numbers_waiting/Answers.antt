-- `numbers_waiting` meets its contract. Assumes nothing.
use mathlib.Core.Path.{ap, ◌∙◌}
use native.Mathlib.Omega.{arith}
use Rattle.timeline.specs.Timeline.{waiting}
use Rattle.timeline.proofs.Laws.{count}
use Rattle.param.specs.Processed.{length_of_head}
use Rattle.param.proofs.Plays.{head_alone}
use Rattle.param.proofs.process.numbers_waiting.Goals as goal

pub returns-then-n-le1 : goal.returns-then-n-le1
returns-then-n-le1 c =
    let q = c.args.q in
    c.length_of_head.ensures ∙ ap length_of_head c.peek.ensures ∙ head_alone (waiting q) (omega (arith, count q c.requires.0, c.if-n-le1.true))

pub returns : goal.returns
returns c = c.lengths.ensures
