-- `runs::shown_of` meets its contract. Assumes nothing.
use Rattle.std.proofs.Common.{◌≡◌, ◌%◌, ◌^◌, ◌≢◌, true, slice_index_or}
use Rattle.runs.specs.Each.{Each}
use Rattle.runs.proofs.shown_of.Given as goal

abbrev pub invariant-loop-i : goal.invariant-loop-i
invariant-loop-i g l = record {
  each : Each (λ k b. (x : _) → goal.F-post g l.f (slice_index_or l.xs k x) b) l.i l.bs;
  told : l.all ≡ true → Each (λ k b. b % 2 ^ 18 ≢ 0) l.i l.bs;
}
