-- `kernels::falling_from` meets its contract: the digits that are left, taken into r, give what all of them gave. Assumes nothing.
use mathlib.Core.Path.{◌≡◌}
use Prim.Native.Nat.{◌^◌, ◌≤◌}
use lib.ListN.{drop}
use Rattle.rules.specs.Kernels as Kernels
use Rattle.rules.specs.Kernels.{falling_from}
use Rattle.kernels.proofs.falling_from.Given as goal

abbrev pub invariant-loop-j : goal.invariant-loop-j
invariant-loop-j l = (l.r ≤ 2 ^ 32) × (falling_from (drop l.j l.table) l.a l.r ≡ falling_from (drop l.first Kernels.table) l.a l.x)
