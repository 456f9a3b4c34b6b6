-- `compute_event` meets its contract, event by event. Assumes nothing.
use mathlib.Core.Path.{refl}
use Rattle.rules.specs.Queue.{length_of}
use Rattle.rules.specs.Walk.{turn_of}
use Rattle.timeline.proofs.Heads.{bare, curve_is, curve_enough, curve_few}
use Rattle.automation.proofs.compute_event.Goals as goal

pub compute_set_value_curve_automation-requires : goal.compute_set_value_curve_automation-requires
compute_set_value_curve_automation-requires c =
    let e = c.in-Curve.is in
    (c.requires.0, curve_enough c.requires.3 e, curve_few c.requires.3 e)

pub returns-in-Step : goal.returns-in-Step
unfolding turn_of length_of
returns-in-Step c =
    let e = c.in-Step.is in
    rw (bare c.requires.3 _ e refl, e) c.compute_set_value_automation.ensures

pub returns-in-Linear : goal.returns-in-Linear
unfolding turn_of length_of
returns-in-Linear c =
    let e = c.in-Linear.is in
    rw (bare c.requires.3 _ e refl, e) c.compute_linear_ramp_automation.ensures

pub returns-in-Exponential : goal.returns-in-Exponential
unfolding turn_of length_of
returns-in-Exponential c =
    let e = c.in-Exponential.is in
    rw (bare c.requires.3 _ e refl, e) c.compute_exponential_ramp_automation.ensures

pub returns-in-Target : goal.returns-in-Target
unfolding turn_of length_of
returns-in-Target c =
    let e = c.in-Target.is in
    rw (bare c.requires.3 _ e refl, e) c.compute_set_target_automation.ensures

pub returns-in-Curve : goal.returns-in-Curve
unfolding turn_of
returns-in-Curve c =
    rw (curve_is c.requires.3 c.in-Curve.is) c.compute_set_value_curve_automation.ensures
