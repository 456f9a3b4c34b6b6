-- `vectors::read_full` ends: each read brings a byte more.
use Rattle.std.proofs.Common.{◌≤◌, ◌-◌, length}
use Rattle.vectors.proofs.read_full.Given as goal

abbrev pub invariant-loop-done : goal.invariant-loop-done
invariant-loop-done l = l.done ≤ length l.buf

abbrev pub decreases-loop-done : goal.decreases-loop-done
decreases-loop-done l = length l.buf - l.done
