-- `tally::put_events` meets its contract: one part behind the other. Assumes nothing.
use mathlib.Core.Path.{ap}
use Prim.Native.Nat.{ℕ}
use native.Mathlib.Omega.{arith}
use Rattle.text.proofs.Writing.{put_same, put_then}
use Rattle.decimal.specs.Codes.{codes}
use Rattle.tally.specs.Tally.{part, events_text}
use Rattle.tally.proofs.put_events.Goals as goal

pub returns : goal.returns
unfolding events_text
returns c =
    let stored = c.put_part-to.ensures in
    let finished = c.put_part-to-2.ensures in
    let cancelled = c.put_part-to-3.ensures in
    let waiting = c.put_part-to-4.ensures in
    let most = c.put_part.ensures in
    let bound = put_same (ap (λ (n : ℕ). part n (codes " steps")) c.most_steps.ensures) most.put in
    record {
      put = put_then stored.put (put_then finished.put (put_then cancelled.put (put_then waiting.put bound (omega arith)) (omega arith)) (omega arith)) (omega arith);
      upper_bound = omega (arith, stored.upper_bound, finished.upper_bound, cancelled.upper_bound, waiting.upper_bound, most.upper_bound);
    }
