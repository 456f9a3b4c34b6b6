-- `answers::put_real_behind` meets its contract: the mark, then the digits. Assumes nothing.
use native.Mathlib.Omega.{arith}
use Rattle.text.proofs.Writing.{put_then, length_float}
use Rattle.answers.proofs.put_real_behind.Goals as goal

pub returns : goal.returns
returns g c = record {
  put = put_then c.put_byte-next.ensures c.put_real.ensures (omega arith);
  upper_bound = omega (arith, c.put_real.ensures.place, length_float g.T.Real.format (g.T.Real.value c.args.x));
}
