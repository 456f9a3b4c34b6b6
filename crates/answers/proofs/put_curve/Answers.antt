-- `answers::put_curve` meets its contract: one field behind the other. Assumes nothing.
use native.Mathlib.Omega.{arith}
use Rattle.text.proofs.Writing.{put_then}
use Rattle.answers.specs.Answers.{curve_text}
use Rattle.answers.proofs.put_curve.Goals as goal

pub returns : goal.returns
unfolding curve_text
returns c = record {
  put = put_then c.put_real_behind-next.ensures.put (put_then c.put_real_behind-next-2.ensures.put (put_then c.put_time_behind-next.ensures.put c.put_count_behind.ensures.put (omega arith)) (omega arith)) (omega arith);
  upper_bound = omega arith;
}
