-- `encode` meets its contract: at each turn the first i events are written, and give themselves back. Assumes nothing.
use mathlib.Core.Path.{◌≡◌}
use Prim.Native.Nat.{◌≤◌}
use lib.ListN.{length}
use Rattle.timeline.specs.Timeline.{waiting}
use Rattle.coding.proofs.Written.{Wrote}
use Rattle.coding.proofs.encode.Given as goal

abbrev pub invariant-loop-i : goal.invariant-loop-i
invariant-loop-i l = (l.i ≤ l.i-end) × (length l.state ≡ length l.initial.state) × Wrote (waiting l.q) l.initial.state l.i l.state
