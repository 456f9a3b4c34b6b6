-- `runs::at_times` meets its contract. Assumes nothing.
use Rattle.std.proofs.Common.{◌≡◌}
use Rattle.runs.specs.After.{after}
use Rattle.runs.specs.Each.{Each}
use Rattle.runs.proofs.at_times.Given as goal

abbrev pub invariant-loop-o : goal.invariant-loop-o
invariant-loop-o g l = record {
  next : l.t ≡ after l.times.period l.o-index l.times.first;
  each : Each (λ k y. goal.F-post g l.f (after l.times.period k l.times.first) y) l.o-index l.out;
}
