-- `runs::faded` meets its contract. Assumes nothing.
use Rattle.std.proofs.Common.{slice_index}
use Rattle.std.specs.Float.{binary64}
use Rattle.std.specs.Prelude.{from_bits}
use Rattle.decays.specs.Told.{shown}
use Rattle.runs.specs.Each.{Each}
use Rattle.runs.proofs.faded.Given as goal

abbrev pub invariant-loop-i : goal.invariant-loop-i
invariant-loop-i g l = Each (λ k y. goal.F-post g l.f (from_bits binary64 (shown (slice_index l.bs k) (slice_index l.us k))) y) l.i l.out
