-- `runs::tell` meets its contract. Assumes nothing.
use Rattle.decays.specs.Told.{Shows}
use Rattle.runs.proofs.Telling.{Telling}
use Rattle.std.proofs.Common.{slice_index}
use Rattle.runs.proofs.tell.Given as goal

abbrev pub invariant-loop-i : goal.invariant-loop-i
invariant-loop-i l = Telling 0 (λ k u. Shows (slice_index l.bs k) u) l.us l.slow l.count l.i
