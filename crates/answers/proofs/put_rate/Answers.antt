-- `answers::put_rate` meets its contract: the word of the rate. Assumes nothing.
use mathlib.Core.Path.{sym, ap}
use native.Mathlib.Omega.{arith}
use Rattle.text.proofs.Writing.{put_same}
use Rattle.answers.specs.Answers.{rate_text}
use Rattle.answers.proofs.put_rate.Goals as goal

pub returns-in-A : goal.returns-in-A
unfolding rate_text
returns-in-A c = record {
  put = put_same (ap rate_text (sym c.in-A.is)) c.put_word.ensures;
  upper_bound = omega arith;
}

pub returns-in-K : goal.returns-in-K
unfolding rate_text
returns-in-K c = record {
  put = put_same (ap rate_text (sym c.in-K.is)) c.put_word-in-K.ensures;
  upper_bound = omega arith;
}
