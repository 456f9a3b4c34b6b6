-- `any_covers` meets its contract. Assumes nothing.
use mathlib.Core.Path.{ap, ◌∙◌}
use Rattle.std.specs.Option.{is_some}
use Rattle.rules.specs.Queue.{covers, any_covers}
use Rattle.timeline.specs.Timeline.{waiting}
use Rattle.timeline.proofs.Steps.{any_find}
use Rattle.timeline.proofs.AudioParamEventTimeline.any_covers.Goals as goal

pub returns : goal.returns
unfolding any_covers
returns c =
    let a = c.args in
    c.is_some.ensures ∙ ap is_some c.covering.ensures ∙ any_find (covers a.time) (waiting a.self)
