-- `answers::put_count_behind` meets its contract: the mark, then the digits. Assumes nothing.
use native.Mathlib.Omega.{arith}
use Rattle.text.proofs.Writing.{put_then, length_decimal}
use Rattle.answers.proofs.put_count_behind.Goals as goal

pub returns : goal.returns
returns c = record {
  put = put_then c.put_byte-next.ensures c.put_count.ensures (omega arith);
  upper_bound = omega (arith, length_decimal c.args.n);
}
