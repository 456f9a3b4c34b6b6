-- `tally::put_cost` meets its contract: its two halves. Assumes nothing.
use native.Mathlib.Omega.{arith}
use Rattle.text.proofs.Writing.{put_then}
use Rattle.tally.specs.Tally.{cost_text}
use Rattle.tally.proofs.put_cost.Goals as goal

pub returns : goal.returns
unfolding cost_text
returns c =
    let s = c.put_steps-to.ensures in
    let e = c.put_events.ensures in
    record {
      put = put_then s.put e.put (omega (arith, s.upper_bound));
      upper_bound = omega (arith, s.upper_bound, e.upper_bound);
    }
