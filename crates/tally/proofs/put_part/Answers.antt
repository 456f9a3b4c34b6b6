-- `tally::put_part` meets its contract: two parts, one behind the other. Assumes nothing.
use native.Mathlib.Omega.{arith}
use Rattle.text.proofs.Writing.{put_then, length_decimal}
use Rattle.tally.proofs.put_part.Goals as goal

pub put_word-requires : goal.put_word-requires
put_word-requires c =
    omega (arith, length_decimal c.args.n, c.put_count-to.ensures.place, c.put_count-to.auto)

pub returns : goal.returns
returns c =
    let a = c.args in
    let n = c.put_count-to.ensures in
    let w = c.put_word.ensures in
    record {
      put = put_then n w (omega (arith, n.place, length_decimal a.n));
      upper_bound = omega (arith, n.place, w.place, length_decimal a.n);
    }
