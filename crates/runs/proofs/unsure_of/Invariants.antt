-- `runs::unsure_of` meets its contract. Assumes nothing.
use Rattle.std.proofs.Common.{slice_index}
use Rattle.runs.specs.Placed.{OneCell}
use Rattle.runs.proofs.Telling.{Telling}
use Rattle.runs.proofs.unsure_of.Given as goal

abbrev pub invariant-loop-i : goal.invariant-loop-i
invariant-loop-i l = Telling 0 (λ k h. OneCell h (slice_index l.ls k)) l.hs l.slow l.count l.i
