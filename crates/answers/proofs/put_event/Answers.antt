-- `answers::put_event` meets its contract: the word of the event, and its fields. Assumes nothing.
use mathlib.Core.Path.{sym, ap}
use native.Mathlib.Omega.{arith}
use Rattle.text.proofs.Writing.{put_same, put_then}
use Rattle.answers.specs.Answers.{event_text}
use Rattle.answers.proofs.put_event.Goals as goal

pub returns-in-Step : goal.returns-in-Step
unfolding event_text
returns-in-Step c = record {
  put = put_same (ap event_text (sym c.in-Step.is)) (put_then c.put_word-next.ensures c.put_step.ensures.put (omega arith));
  upper_bound = omega arith;
}

pub returns-in-Linear : goal.returns-in-Linear
unfolding event_text
returns-in-Linear c = record {
  put = put_same (ap event_text (sym c.in-Linear.is)) (put_then c.put_word-next-in-Linear.ensures c.put_ramp.ensures.put (omega arith));
  upper_bound = omega arith;
}

pub returns-in-Exponential : goal.returns-in-Exponential
unfolding event_text
returns-in-Exponential c = record {
  put = put_same (ap event_text (sym c.in-Exponential.is)) (put_then c.put_word-next-in-Exponential.ensures c.put_ramp-in-Exponential.ensures.put (omega arith));
  upper_bound = omega arith;
}

pub returns-in-Target : goal.returns-in-Target
unfolding event_text
returns-in-Target c = record {
  put = put_same (ap event_text (sym c.in-Target.is)) (put_then c.put_word-next-in-Target.ensures c.put_target.ensures.put (omega arith));
  upper_bound = omega arith;
}

pub returns-in-Curve : goal.returns-in-Curve
unfolding event_text
returns-in-Curve c = record {
  put = put_same (ap event_text (sym c.in-Curve.is)) (put_then c.put_word-next-in-Curve.ensures c.put_curve.ensures.put (omega arith));
  upper_bound = omega arith;
}
