-- `sound::is_clear` meets its contract. Assumes nothing.
use Rattle.laws.specs.Sound.{is_clear}
use Rattle.refusals.proofs.sound.is_clear.Goals as goal

pub returns-in-Step : goal.returns-in-Step
unfolding is_clear
returns-in-Step c = rw (c.in-Step.is, c.is_finite.ensures, c.is_from_zero.ensures)

pub returns-in-Linear : goal.returns-in-Linear
unfolding is_clear
returns-in-Linear c = rw (c.in-Linear.is, c.is_finite-in-Linear.ensures, c.is_span.ensures)

pub returns-in-Exponential : goal.returns-in-Exponential
unfolding is_clear
returns-in-Exponential c = rw (c.in-Exponential.is, c.is_finite-in-Exponential.ensures, c.is_zero.ensures, c.is_span-in-Exponential.ensures)

pub returns-in-Target : goal.returns-in-Target
unfolding is_clear
returns-in-Target c = rw (c.in-Target.is, c.is_period.ensures, c.is_taken_if_any.ensures, c.is_finite-in-Target.ensures, c.is_taken.ensures)

pub returns-in-Curve : goal.returns-in-Curve
unfolding is_clear
returns-in-Curve c = rw (c.in-Curve.is, c.is_curve_hold-held.ensures, c.is_taken-in-Curve.ensures, c.is_period-in-Curve.ensures)
