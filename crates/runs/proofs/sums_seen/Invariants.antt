-- `runs::sums_seen` meets its contract. Assumes nothing.
use Rattle.std.proofs.Common.{◌≡◌, true, slice_index_or}
use Rattle.runs.specs.Each.{Each}
use Rattle.runs.specs.Passes.{phase_sum}
use Rattle.runs.proofs.sums_seen.Given as goal

abbrev pub invariant-loop-i : goal.invariant-loop-i
invariant-loop-i l = l.seen ≡ true → Each (λ k y. (x : _) → y ≡ phase_sum l.line.c l.line.a (slice_index_or l.xs k x)) l.i l.out
