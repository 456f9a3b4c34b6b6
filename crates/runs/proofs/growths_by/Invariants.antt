-- `runs::growths_by` meets its contract. Assumes nothing.
use Rattle.std.proofs.Common.{◌≡◌, true, ℕ, slice_index_or}
use Rattle.runs.specs.Each.{Each}
use Rattle.runs.specs.Placed.{InGrown, Grows}
use Rattle.runs.proofs.growths_by.Given as goal

abbrev pub invariant-loop-i : goal.invariant-loop-i
invariant-loop-i l = record {
  each : Each (λ k n. InGrown n) l.i l.ns;
  told : l.all ≡ true → Each (λ k n. (b : ℕ) → Grows (slice_index_or l.bs k b) n) l.i l.ns;
}
