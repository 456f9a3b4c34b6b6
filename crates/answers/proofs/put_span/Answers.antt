-- `answers::put_span` meets its contract: one field behind the other. Assumes nothing.
use native.Mathlib.Omega.{arith}
use Rattle.text.proofs.Writing.{put_then}
use Rattle.answers.specs.Answers.{span_text}
use Rattle.answers.proofs.put_span.Goals as goal

pub returns : goal.returns
unfolding span_text
returns c = record {
  put = put_then c.put_time_behind-next.ensures.put c.put_end.ensures.put (omega arith);
  upper_bound = omega arith;
}
