-- `answers::put_ramp` meets its contract: one field behind the other. Assumes nothing.
use native.Mathlib.Omega.{arith}
use Rattle.text.proofs.Writing.{put_then}
use Rattle.answers.specs.Answers.{ramp_text}
use Rattle.answers.proofs.put_ramp.Goals as goal

pub returns : goal.returns
unfolding ramp_text
returns c = record {
  put = put_then c.put_step-next.ensures.put c.put_time_behind.ensures.put (omega arith);
  upper_bound = omega arith;
}
