-- `value_at` meets its contract, event by event. Assumes nothing.
use mathlib.Core.Path.{◌≡◌, refl, ap, ◌∙◌}
use mathlib.Core.Bool.{true, not, ◌&&◌}
use mathlib.Core.List.{List}
use lib.IntN.{ℤ}
use lib.Ieee as Ieee
use lib.Ieee.{Float, binary32, binary64}
use mir.Syntax.{w64}
use mir.Val.{to_z, of_z}
use mir.Facts.{to_z-of_z}
use Rattle.rules.specs.declared.Event.{Event}
use Rattle.rules.specs.declared.Finished.{Finished}
use Rattle.rules.specs.Queue.{is_ramp, filed_under}
use Rattle.rules.specs.Samples.{ratio_of, ratio_log, ramp_sample, exponential_sample, target_sample}
use Rattle.rules.specs.Walk.{from_start}
use Rattle.laws.proofs.Tests.{never}
use Rattle.samples.specs.At.{exponential_at, target_at}
use Rattle.plain.specs.Seen.{sample_from}
use Rattle.plain.proofs.value_at.Goals as goal

-- before the start of what is no ramp the value is the one before it
before_start : (e : Event) (xs : List Float) (from : Finished) (before at : Float) → (not (is_ramp e) && Ieee.lt at (filed_under e)) ≡ true → before ≡ sample_from e xs from before at
unfolding sample_from from_start is_ramp filed_under
before_start (Event.Step v t) xs from before at h = refl
before_start (Event.Linear v t k) xs from before at h = never h
before_start (Event.Exponential v t k) xs from before at h = never h
before_start (Event.Target v t c k) xs from before at h = rw h
before_start (Event.Curve s d n k) xs from before at h = rw h

pub returns-then-is_ramp-at : goal.returns-then-is_ramp-at
returns-then-is_ramp-at c = before_start c.args.event c.args.numbers.now _ _ _ (rw (c.is_ramp.ensures, c.filed_under-start.ensures) at c.if-is_ramp-at.true)

pub compute_set_value_curve_sample-requires : goal.compute_set_value_curve_sample-requires
compute_set_value_curve_sample-requires c = rw c.in-Curve.is at c.requires

pub returns-in-Step : goal.returns-in-Step
unfolding sample_from
returns-in-Step c = rw c.in-Step.is

pub returns-in-Linear : goal.returns-in-Linear
unfolding sample_from
returns-in-Linear c = rw c.in-Linear.is (rw c.start_of-from.ensures at c.linear_value.ensures)

pub returns-in-Exponential : goal.returns-in-Exponential
unfolding sample_from exponential_sample exponential_at ratio_of
returns-in-Exponential c = let from = c.start_of-from.result in
    -- L as it is handed on: a signed number is read back from its bits
    let log_is : to_z w64 (of_z w64 c.ratio_log-log.result) ≡ ratio_log (Ieee.div binary32 c.in-Exponential.value from.value) =
    to_z-of_z {w = w64} (record { sfits = c.ratio_log-log.type_inv }) ∙ c.ratio_log-log.ensures in
    rw (c.in-Exponential.is, ← c.start_of-from.ensures)
    (c.exponential_value.ensures
    ∙ ap
    (λ (l : ℤ). ramp_sample c.in-Exponential.value (Ieee.sub binary64 c.in-Exponential.time from.time) (exponential_at from.time (Ieee.sub binary64 c.in-Exponential.time from.time) from.value l) c.args.at)
    log_is)

pub returns-in-Target : goal.returns-in-Target
unfolding sample_from from_start target_sample target_at is_ramp filed_under
returns-in-Target c = let is = c.in-Target.is in
    rw (is, rw (c.is_ramp.ensures, c.filed_under-start.ensures, is) at c.if-is_ramp-at.false, ← c.start_of-from.ensures) (rw (c.filed_under-start.ensures, is) at c.compute_set_target_sample.ensures)

pub returns-in-Curve : goal.returns-in-Curve
unfolding sample_from from_start is_ramp filed_under
returns-in-Curve c = let is = c.in-Curve.is in
    rw (is, rw (c.is_ramp.ensures, c.filed_under-start.ensures, is) at c.if-is_ramp-at.false) (rw (c.filed_under-start.ensures, is) at c.compute_set_value_curve_sample.ensures)
