-- `set_target_at_time` meets its contract. Assumes nothing.
use mathlib.Core.Path.{◌≡◌, refl, sym, ◌∙◌}
use Rattle.rules.specs.Refusals.{lowest, target_rows}
use Rattle.rules.specs.Block.{called}
use Rattle.laws.proofs.Rows.{target_answered}
use Rattle.param.specs.Param.{param_of}
use Rattle.param.proofs.Calls.{schedules}
use Rattle.param.proofs.AudioParam.set_target_at_time.Goals as goal
use Rattle.param.proofs.AudioParam.set_target_at_time.Goals.{After-target-verdict}

-- the call's verdict
verdict : (c : After-target-verdict)
    → let a = c.args in c.target-verdict.result ≡ lowest (target_rows (param_of a.self).queue a.value a.start_time a.time_constant)
verdict c =
    let start = c.before.before.before.before in
    let inside = rw c.taken_time-time.ensures at c.is_inside-inside.ensures in
    c.target-verdict.ensures (param_of start.args.self).queue inside c.is_full-full.ensures

pub schedule-requires : goal.schedule-requires
schedule-requires c = (c.requires, λ h. (target_answered _ _ _ _ (sym (verdict (goal.at.schedule-requires c).After-target-verdict) ∙ h)).3.few)

pub returns : goal.returns
unfolding called
returns c =
    schedules _ _ c.requires refl
    (rw (verdict (goal.at.returns c).After-target-verdict, c.target_event.ensures, c.taken_time-time.ensures) at c.schedule.ensures)
