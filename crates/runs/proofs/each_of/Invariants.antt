-- `runs::each_of` meets its contract. Assumes nothing.
use Rattle.std.proofs.Common.{slice_index_or}
use Rattle.runs.specs.Each.{Each}
use Rattle.runs.proofs.each_of.Given as goal

abbrev pub invariant-loop-i : goal.invariant-loop-i
invariant-loop-i g l = Each (λ k y. (x : _) → goal.F-post g l.f (slice_index_or l.xs k x) y) l.i l.out
