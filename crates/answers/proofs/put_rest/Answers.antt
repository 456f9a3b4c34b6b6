-- `answers::put_rest` meets its contract: by the flag. Assumes nothing.
use mathlib.Core.Path.{sym, ap}
use native.Mathlib.Omega.{arith}
use Rattle.text.proofs.Writing.{put_same}
use Rattle.answers.specs.Answers.{rest_text}
use Rattle.answers.proofs.put_rest.Goals as goal

pub returns-then-clean : goal.returns-then-clean
unfolding rest_text
returns-then-clean c = record {
  put = put_same (ap rest_text (sym c.if-clean.true)) c.put_word.ensures;
  upper_bound = omega arith;
}

pub returns-else-clean : goal.returns-else-clean
unfolding rest_text
returns-else-clean c = record {
  put = put_same (ap rest_text (sym c.if-clean.false)) c.put_word-else-clean.ensures;
  upper_bound = omega arith;
}
