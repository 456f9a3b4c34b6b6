-- `answers::put_fault` meets its contract: its parts one behind the other. Assumes nothing.
use native.Mathlib.Omega.{arith}
use Rattle.text.proofs.Writing.{put_then}
use Rattle.answers.specs.Answers.{fault_text}
use Rattle.answers.proofs.put_fault.Goals as goal

pub returns : goal.returns
unfolding fault_text
returns c = record {
  put = put_then c.put_word-next.ensures (put_then c.put_count_behind-next.ensures.put c.put_count_behind.ensures.put (omega arith)) (omega arith);
  upper_bound = omega arith;
}
