-- `answers::put_bounds` meets its contract: one field behind the other. Assumes nothing.
use native.Mathlib.Omega.{arith}
use Rattle.text.proofs.Writing.{put_then}
use Rattle.answers.specs.Answers.{bounds_text}
use Rattle.answers.proofs.put_bounds.Goals as goal

pub returns : goal.returns
unfolding bounds_text
returns c = record {
  put = put_then c.put_real_behind-next.ensures.put (put_then c.put_real_behind-next-2.ensures.put c.put_real_behind.ensures.put (omega arith)) (omega arith);
  upper_bound = omega arith;
}
