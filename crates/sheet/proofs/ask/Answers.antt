-- `sheet::ask` meets its contract: each call by its own. Assumes nothing.
use Rattle.std.proofs.Common.{Some, ap, ◌∙◌}
use Rattle.sheet.proofs.Asks.{asks_nothing, asks_step, asks_linear, asks_exponential, asks_curve, asks_hold, asks_cancel}
use Rattle.sheet.proofs.ask.Goals as goal

pub returns-in_default : goal.returns-in_default
returns-in_default c = asks_nothing c.requires c.in_default.is

pub returns-in-Step : goal.returns-in-Step
returns-in-Step c = asks_step (c.in-Some.is ∙ ap Some c.in-Step.is) c.set_value_at_time.ensures

pub returns-in-Linear : goal.returns-in-Linear
returns-in-Linear c = asks_linear (c.in-Some.is ∙ ap Some c.in-Linear.is) c.linear_ramp_to_value_at_time.ensures

pub returns-in-Exponential : goal.returns-in-Exponential
returns-in-Exponential c = asks_exponential (c.in-Some.is ∙ ap Some c.in-Exponential.is) c.exponential_ramp_to_value_at_time.ensures

pub returns-in-Curve : goal.returns-in-Curve
returns-in-Curve c = asks_curve (c.in-Some.is ∙ ap Some c.in-Curve.is) c.set_value_curve_at_time.ensures

pub returns-in-Hold : goal.returns-in-Hold
returns-in-Hold c = asks_hold (c.in-Some.is ∙ ap Some c.in-Hold.is) c.cancel_and_hold_at_time.ensures

pub returns-in-Cancel : goal.returns-in-Cancel
returns-in-Cancel c = asks_cancel (c.in-Some.is ∙ ap Some c.in-Cancel.is) c.cancel_scheduled_values.ensures
