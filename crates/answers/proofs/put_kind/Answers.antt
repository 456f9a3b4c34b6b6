-- `answers::put_kind` meets its contract: one field behind the other. Assumes nothing.
use native.Mathlib.Omega.{arith}
use Rattle.text.proofs.Writing.{put_then}
use Rattle.answers.specs.Answers.{kind_text}
use Rattle.answers.proofs.put_kind.Goals as goal

pub returns : goal.returns
unfolding kind_text
returns c = record {
  put = put_then c.put_rate-next.ensures.put c.put_edition.ensures.put (omega arith);
  upper_bound = omega arith;
}
