-- `answers::put_zeros` meets its contract: by the flag. Assumes nothing.
use mathlib.Core.Path.{sym, ap}
use native.Mathlib.Omega.{arith}
use Rattle.text.proofs.Writing.{put_same}
use Rattle.answers.specs.Answers.{zeros_text}
use Rattle.answers.proofs.put_zeros.Goals as goal

pub returns-then-zeros : goal.returns-then-zeros
unfolding zeros_text
returns-then-zeros c = record {
  put = put_same (ap zeros_text (sym c.if-zeros.true)) c.put_word.ensures;
  upper_bound = omega arith;
}

pub returns-else-zeros : goal.returns-else-zeros
unfolding zeros_text
returns-else-zeros c = record {
  put = put_same (ap zeros_text (sym c.if-zeros.false)) c.put_word-else-zeros.ensures;
  upper_bound = omega arith;
}
