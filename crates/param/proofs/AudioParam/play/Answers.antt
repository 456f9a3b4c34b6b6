-- `play` meets its contract: of one value, or walked. Assumes nothing.
use mathlib.Core.Path.{◌≡◌, sym, ap, ◌∙◌}
use Rattle.rules.specs.Block.{rests_for}
use Rattle.timeline.specs.Timeline.{first_of}
use Rattle.param.specs.Param.{param_of}
use Rattle.param.proofs.AudioParam.play.Goals as goal
use Rattle.param.proofs.AudioParam.play.Goals.{After-rests_for}

rested : (c : After-rests_for)
    → let start = c.before.before.before.before.before.before.before in
    rests_for start.args.infos (first_of (param_of start.args.self).queue) ≡ c.rests_for.result
rested c = sym (c.rests_for.ensures ∙ ap (rests_for _) c.peek.ensures)

pub returns-then-rests_for : goal.returns-then-rests_for
returns-then-rests_for c =
    rw (rested (goal.at.returns-then-rests_for c).After-rests_for ∙ c.if-rests_for.true) (c.rest.ensures _)

pub returns-else-rests_for : goal.returns-else-rests_for
returns-else-rests_for c =
    rw (rested (goal.at.returns-else-rests_for c).After-rests_for ∙ c.if-rests_for.false) c.walk.ensures
