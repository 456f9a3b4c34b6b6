-- `queue_in` meets its contract: the slots made so far hold the first i events. Assumes nothing.
use Prim.Native.Nat.{◌≤◌}
use Rattle.timeline.proofs.Laws.{Filled}
use Rattle.coding.specs.Coding.{events_in}
use Rattle.coding.proofs.queue_in.Given as goal

abbrev pub invariant-loop-i : goal.invariant-loop-i
invariant-loop-i l = (l.i ≤ l.len) × Filled l.slots l.i (events_in l.state l.i)
