-- `tally::put_steps` meets its contract: one part behind the other. Assumes nothing.
use native.Mathlib.Omega.{arith}
use Rattle.text.proofs.Writing.{put_then}
use Rattle.tally.specs.Tally.{steps_text}
use Rattle.tally.proofs.put_steps.Goals as goal

pub returns : goal.returns
unfolding steps_text
returns c =
    let w = c.put_word-to.ensures in
    let steps = c.put_part-to.ensures in
    let blocks = c.put_part-to-2.ensures in
    let finished = c.put_part-to-3.ensures in
    let turned = c.put_part.ensures in
    record {
      put = put_then w (put_then steps.put (put_then blocks.put (put_then finished.put turned.put (omega arith)) (omega arith)) (omega arith)) (omega arith);
      upper_bound = omega (arith, w.place, steps.upper_bound, blocks.upper_bound, finished.upper_bound, turned.upper_bound);
    }
