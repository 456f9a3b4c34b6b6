-- `runs::settle` meets its contract. Assumes nothing.
use Rattle.std.proofs.Common.{length, slice_index}
use Rattle.runs.specs.Each.{Each}
use Rattle.runs.proofs.Telling.{Settled}
use Rattle.runs.proofs.settle.Given as goal

abbrev pub invariant-loop-i : goal.invariant-loop-i
invariant-loop-i g l = Each (Settled (λ k y. goal.F-post g l.f (slice_index l.bs k) y) l.slow l.initial.out l.i-index) (length l.initial.out) l.out
