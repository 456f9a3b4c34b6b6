-- `play::put_not_read` meets its contract: three parts, one behind the other. Assumes nothing.
use native.Mathlib.Omega.{arith}
use Rattle.text.proofs.Writing.{put_then, length_decimal}
use Rattle.play.specs.Played.{not_read}
use Rattle.play.proofs.put_not_read.Goals as goal

pub put_word-requires : goal.put_word-requires
put_word-requires c =
    omega (arith, length_decimal c.args.n, c.put_count-to.ensures.place, c.put_word-to.ensures.place)

pub returns : goal.returns
unfolding not_read
returns c =
    let w = c.put_word-to.ensures in
    let n = c.put_count-to.ensures in
    let v = c.put_word.ensures in
    let most = length_decimal c.args.n in
    record {
      put = put_then w (put_then n v (omega (arith, w.place, n.place, most))) (omega (arith, w.place));
      upper_bound = omega (arith, w.place, n.place, v.place, most);
    }
