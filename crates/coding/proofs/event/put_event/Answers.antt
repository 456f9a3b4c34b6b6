-- `put_event` meets its contract, kind by kind. Assumes nothing.
use Rattle.coding.proofs.Words.{puts_step, puts_linear, puts_exponential, puts_target, puts_curve}
use Rattle.coding.proofs.event.put_event.Goals as goal

pub returns-in-Step : goal.returns-in-Step
returns-in-Step c = rw c.in-Step.is (puts_step c.put_words.ensures c.bits.ensures)

pub returns-in-Linear : goal.returns-in-Linear
returns-in-Linear c = rw c.in-Linear.is (puts_linear c.put_words-in-Linear.ensures c.bits-in-Linear.ensures)

pub returns-in-Exponential : goal.returns-in-Exponential
returns-in-Exponential c = rw c.in-Exponential.is (puts_exponential c.put_words-in-Exponential.ensures c.bits-in-Exponential.ensures)

pub returns-in-Target : goal.returns-in-Target
returns-in-Target c = rw c.in-Target.is (puts_target c.put_words-in-Target.ensures c.bits-in-Target.ensures c.bits-other.ensures)

pub returns-in-Curve : goal.returns-in-Curve
returns-in-Curve c = rw c.in-Curve.is (puts_curve c.put_words-in-Curve.ensures c.bits-other-in-Curve.ensures)
