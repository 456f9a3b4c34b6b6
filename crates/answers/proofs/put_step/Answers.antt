-- `answers::put_step` meets its contract: one field behind the other. Assumes nothing.
use native.Mathlib.Omega.{arith}
use Rattle.text.proofs.Writing.{put_then}
use Rattle.answers.specs.Answers.{step_text}
use Rattle.answers.proofs.put_step.Goals as goal

pub returns : goal.returns
unfolding step_text
returns c = record {
  put = put_then c.put_real_behind-next.ensures.put c.put_real_behind.ensures.put (omega arith);
  upper_bound = omega arith;
}
