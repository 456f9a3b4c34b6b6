-- `any_inside` meets its contract. Assumes nothing.
use mathlib.Core.Path.{ap, ◌∙◌}
use Rattle.std.specs.Option.{is_some}
use Rattle.rules.specs.Queue.{is_filed_inside, any_inside}
use Rattle.timeline.specs.Timeline.{waiting}
use Rattle.timeline.proofs.Steps.{any_find}
use Rattle.timeline.proofs.AudioParamEventTimeline.any_inside.Goals as goal

pub returns : goal.returns
unfolding any_inside
returns c =
    let a = c.args in
    c.is_some.ensures ∙ ap is_some c.filed_inside.ensures ∙ any_find (is_filed_inside a.start a.end) (waiting a.self)
