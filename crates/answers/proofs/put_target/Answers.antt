-- `answers::put_target` meets its contract: one field behind the other. Assumes nothing.
use native.Mathlib.Omega.{arith}
use Rattle.text.proofs.Writing.{put_then}
use Rattle.answers.specs.Answers.{target_text}
use Rattle.answers.proofs.put_target.Goals as goal

pub returns : goal.returns
unfolding target_text
returns c = record {
  put = put_then c.put_step-next.ensures.put (put_then c.put_real_behind-next.ensures.put c.put_time_behind.ensures.put (omega arith)) (omega arith);
  upper_bound = omega arith;
}
