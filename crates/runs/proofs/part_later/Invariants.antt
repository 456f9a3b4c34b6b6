-- `runs::part_later` meets its contract. Assumes nothing.
use Rattle.std.proofs.Common.{◌≡◌}
use Rattle.runs.specs.After.{after}
use Rattle.runs.proofs.part_later.Given as goal

abbrev pub invariant-loop : goal.invariant-loop
invariant-loop l = l.t ≡ after l.times.period l.counter l.times.first
