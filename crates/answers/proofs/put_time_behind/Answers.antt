-- `answers::put_time_behind` meets its contract: the time, or a dash. Assumes nothing.
use Rattle.std.proofs.Common.{Option}
use Rattle.std.specs.Float.{Float}
use mathlib.Core.Path.{sym, ap}
use native.Mathlib.Omega.{arith}
use mathlib.Core.List.{◌∷◌}
use Rattle.text.proofs.Writing.{put_same, put_then}
use Rattle.answers.specs.Answers.{time_text}
use Rattle.answers.proofs.put_time_behind.Goals as goal

pub returns-in-Some : goal.returns-in-Some
unfolding time_text
returns-in-Some c = record {
  put = put_same (ap (λ (m : Option Float). c.args.mark ∷ time_text m) (sym c.in-Some.is)) c.put_real_behind.ensures.put;
  upper_bound = omega arith;
}

pub returns-in-None : goal.returns-in-None
unfolding time_text
returns-in-None c = record {
  put = put_same (ap (λ (m : Option Float). c.args.mark ∷ time_text m) (sym c.in-None.is)) (put_then c.put_byte-next.ensures c.put_byte.ensures (omega arith));
  upper_bound = omega arith;
}
