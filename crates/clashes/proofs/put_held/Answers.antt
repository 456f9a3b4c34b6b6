-- `clashes::put_held` meets its contract: three parts, one behind the other. Assumes nothing.
use native.Mathlib.Omega.{arith}
use lib.Ieee.{binary64}
use Rattle.text.proofs.Writing.{put_then}
use Rattle.decimal.proofs.Written.{length_plain}
use Rattle.clashes.specs.Clashes.{clash_text}
use Rattle.clashes.proofs.put_held.Goals as goal

pub put_word-requires : goal.put_word-requires
put_word-requires c =
    omega (arith, length_plain binary64 c.args.time, c.put_time-to.ensures.place, c.put_word-to.ensures.place)

pub returns : goal.returns
unfolding clash_text
returns c =
    let w = c.put_word-to.ensures in
    let t = c.put_time-to.ensures in
    let v = c.put_word.ensures in
    let most = length_plain binary64 c.args.time in
    record {
      put = put_then w (put_then t v (omega (arith, w.place, t.place, most))) (omega (arith, w.place));
      upper_bound = omega (arith, w.place, t.place, v.place, most);
    }
