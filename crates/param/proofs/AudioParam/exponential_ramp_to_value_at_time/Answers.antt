-- `exponential_ramp_to_value_at_time` meets its contract. Assumes nothing.
use mathlib.Core.Path.{◌≡◌, refl, sym, ◌∙◌}
use Rattle.rules.specs.Refusals.{lowest, exponential_rows}
use Rattle.rules.specs.Block.{called}
use Rattle.laws.proofs.Rows.{exponential_answered}
use Rattle.param.specs.Param.{param_of}
use Rattle.param.proofs.Calls.{schedules}
use Rattle.param.proofs.AudioParam.exponential_ramp_to_value_at_time.Goals as goal
use Rattle.param.proofs.AudioParam.exponential_ramp_to_value_at_time.Goals.{After-exponential-verdict}

-- the call's verdict
verdict : (c : After-exponential-verdict) → let a = c.args in c.exponential-verdict.result ≡ lowest (exponential_rows (param_of a.self).queue a.value a.end_time)
verdict c =
    let start = c.before.before.before.before in
    let inside = rw c.taken_time-time.ensures at c.is_inside-inside.ensures in
    c.exponential-verdict.ensures (param_of start.args.self).queue inside c.is_full.ensures

pub schedule-requires : goal.schedule-requires
schedule-requires c = (c.requires, λ h. (exponential_answered _ _ _ (sym (verdict c) ∙ h)).2.few)

pub returns : goal.returns
unfolding called
returns c =
    schedules _ _ c.requires refl (rw (verdict (goal.at.returns c).After-exponential-verdict, c.taken_time-time.ensures) at c.schedule.ensures)
