-- `runs::cells_of` meets its contract. Assumes nothing.
use Rattle.std.proofs.Common.{ℕ, ◌<◌, slice_index, slice_index_or}
use lib.Ieee.{nan}
use Rattle.runs.specs.Placed.{Celled}
use Rattle.runs.proofs.cells_of.Given as goal

abbrev pub invariant-loop-i : goal.invariant-loop-i
invariant-loop-i l = (k : ℕ) → k < l.i → Celled l.from (slice_index l.ns k) (slice_index l.hs k) (slice_index l.ls k) (slice_index_or l.out k nan)
