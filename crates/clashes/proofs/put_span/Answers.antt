-- `clashes::put_span` meets its contract: four parts, one behind the other. Assumes nothing.
use native.Mathlib.Omega.{arith}
use lib.Ieee.{binary64}
use Rattle.text.proofs.Writing.{put_then}
use Rattle.decimal.proofs.Written.{length_plain}
use Rattle.clashes.specs.Clashes.{clash_text}
use Rattle.clashes.proofs.put_span.Goals as goal

pub put_word-to-requires-2 : goal.put_word-to-requires-2
put_word-to-requires-2 c =
    omega (arith, length_plain binary64 c.args.start, c.put_time-to.ensures.place, c.put_word-to.ensures.place)

pub put_time-requires : goal.put_time-requires
put_time-requires c =
    omega (arith, length_plain binary64 c.args.start, c.put_word-to-2.ensures.place, c.put_time-to.ensures.place, c.put_word-to.ensures.place)

pub returns : goal.returns
unfolding clash_text
returns c =
    let w = c.put_word-to.ensures in
    let s = c.put_time-to.ensures in
    let v = c.put_word-to-2.ensures in
    let e = c.put_time.ensures in
    let most-s = length_plain binary64 c.args.start in
    let most-e = length_plain binary64 c.args.end in
    let behind = put_then s (put_then v e (omega (arith, w.place, s.place, v.place, most-s))) (omega (arith, w.place, s.place, most-s)) in
    record {
      put = put_then w behind (omega (arith, w.place));
      upper_bound = omega (arith, w.place, s.place, v.place, e.place, most-s, most-e);
    }
