-- `compute_exponential_ramp_automation` meets its contract: a span, or the step that it becomes. Assumes nothing.
use mathlib.Core.Path.{refl, sym, ◌∙◌}
use Rattle.rules.specs.Samples.{ratio_of}
use Rattle.samples.proofs.Once.{exponential_is as exponential-at}
use Rattle.automation.proofs.Bodies.{ready_as, exponential_is, exponential_steps}
use Rattle.automation.proofs.compute_exponential_ramp_automation.Goals as goal

pub turned_to_step-requires : goal.turned_to_step-requires
turned_to_step-requires c =
    let p = c.requires in
    rw c.with_last-w.ensures (p.1, p.2)

pub compute_set_value_automation-requires : goal.compute_set_value_automation-requires
compute_set_value_automation-requires c = rw (c.turned_to_step.ensures, c.with_last-w.ensures) (ready_as c.requires.0 refl refl)

pub returns-then-not-is_ratio : goal.returns-then-not-is_ratio
unfolding ratio_of
returns-then-not-is_ratio c =
    let a = c.args in
    rw
    (exponential_steps a.infos a.walk a.buffer.now c.start_of-last_event.ensures _ _ _ _ (sym c.is_ratio.ensures ∙ c.if-not-is_ratio.true))
    (rw (c.turned_to_step.ensures, c.with_last-w.ensures, c.hold_or-end_time.ensures) at c.compute_set_value_automation.ensures)

pub exponential_span-requires : goal.exponential_span-requires
exponential_span-requires c = rw c.with_last-w.ensures (ready_as c.requires.0 refl refl)

pub returns : goal.returns
unfolding ratio_of
returns c =
    let a = c.args in
    rw (
      exponential_is a.infos a.walk a.buffer.now c.start_of-last_event.ensures _ _ _ _ (sym c.is_ratio.ensures ∙ c.if-not-is_ratio.false),
      exponential-at,
    )
    (rw c.with_last-w.ensures at c.exponential_span.ensures)
