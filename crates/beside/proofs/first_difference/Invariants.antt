-- `beside::first_difference` meets its contract. The invariant of its loop: the place is that of what is left, and what is passed is the same. Assumes nothing.
use mathlib.Core.Path.{◌≡◌}
use Prim.Native.Nat.{◌≤◌}
use lib.ListN.{length, take, drop}
use Rattle.beside.specs.Beside.{differs_from, first_difference}
use Rattle.beside.proofs.first_difference.Given as goal

abbrev pub invariant-loop-i : goal.invariant-loop-i
invariant-loop-i l = (l.i ≤ length l.ys) × (first_difference l.xs l.ys ≡ differs_from l.i (drop l.i l.xs) (drop l.i l.ys)) × (take l.i l.xs ≡ take l.i l.ys)
