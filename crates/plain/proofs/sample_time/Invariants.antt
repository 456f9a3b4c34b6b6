-- `sample_time` meets its contract: what is left to add ends at the same time. Assumes nothing.
use mathlib.Core.Path.{◌≡◌}
use Prim.Native.Nat.{◌-◌}
use Rattle.plain.specs.Seen.{time_after}
use Rattle.plain.proofs.sample_time.Given as goal

abbrev pub invariant-loop : goal.invariant-loop
invariant-loop l = time_after l.infos.dt (l.place - l.counter) l.time ≡ time_after l.infos.dt (l.place - l.first) l.initial.time

abbrev pub decreases-loop : goal.decreases-loop
decreases-loop l = l.place - l.counter
