-- `answers::put_last` meets its contract: the last event, or a dash. Assumes nothing.
use mathlib.Core.Path.{sym, ap}
use native.Mathlib.Omega.{arith}
use Rattle.text.proofs.Writing.{put_same, put_then}
use Rattle.answers.specs.Answers.{last_text}
use Rattle.answers.proofs.put_last.Goals as goal

pub returns-in-None : goal.returns-in-None
unfolding last_text
returns-in-None c = record {
  put = put_same (ap last_text (sym c.in-None.is)) c.put_word.ensures;
  upper_bound = omega arith;
}

pub returns-in-Some : goal.returns-in-Some
unfolding last_text
returns-in-Some c = record {
  put = put_same (ap last_text (sym c.in-Some.is)) (put_then c.put_real_behind-next.ensures.put c.put_real_behind.ensures.put (omega arith));
  upper_bound = omega arith;
}
