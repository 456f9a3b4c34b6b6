-- `answers::put_edition` meets its contract: nothing, or `2`. Assumes nothing.
use mathlib.Core.Path.{sym, ap}
use native.Mathlib.Omega.{arith}
use Rattle.text.proofs.Writing.{put-nothing, put_same}
use Rattle.answers.specs.Answers.{edition_text}
use Rattle.answers.proofs.put_edition.Goals as goal

pub returns-in-First : goal.returns-in-First
unfolding edition_text
returns-in-First c = record {
  put = put_same (ap edition_text (sym c.in-First.is)) (put-nothing _ _);
  upper_bound = omega arith;
}

pub returns-in-Second : goal.returns-in-Second
unfolding edition_text
returns-in-Second c = record {
  put = put_same (ap edition_text (sym c.in-Second.is)) c.put_word.ensures;
  upper_bound = omega arith;
}
