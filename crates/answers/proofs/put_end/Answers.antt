-- `answers::put_end` meets its contract: the end, or nothing. Assumes nothing.
use mathlib.Core.Path.{sym, ap}
use native.Mathlib.Omega.{arith}
use Rattle.text.proofs.Writing.{put-nothing, put_same}
use Rattle.answers.specs.Answers.{end_text}
use Rattle.answers.proofs.put_end.Goals as goal

pub returns-in-None : goal.returns-in-None
unfolding end_text
returns-in-None c = record {
  put = put_same (ap end_text (sym c.in-None.is)) (put-nothing _ _);
  upper_bound = omega arith;
}

pub returns-in-Some : goal.returns-in-Some
unfolding end_text
returns-in-Some c = record {
  put = put_same (ap end_text (sym c.in-Some.is)) c.put_real_behind.ensures.put;
  upper_bound = omega arith;
}
