-- `move_up` meets its contract: all but the first i are copied, and those are as they were. Assumes nothing.
use Rattle.curves.proofs.Parts.{Lifted}
use mathlib.Core.Path.{◌≡◌}
use Prim.Native.Nat.{◌≤◌}
use lib.ListN.{length}
use Rattle.curves.proofs.move_up.Given as goal

abbrev pub invariant-loop-i : goal.invariant-loop-i
invariant-loop-i l = (l.i ≤ l.n) × (length l.part ≡ length l.initial.part) × (l.part ≡ Lifted l.initial.part l.from l.to l.n l.i)

abbrev pub decreases-loop-i : goal.decreases-loop-i
decreases-loop-i l = l.i
