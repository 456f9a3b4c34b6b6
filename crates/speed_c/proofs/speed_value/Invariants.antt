-- `speed_value` is safe and ends. Assumes nothing.
use mathlib.Core.Path.{◌≡◌}
use Prim.Native.Nat.{◌-◌}
use lib.ListN.{length}
use Rattle.param.specs.Param.{SoundParam}
use Rattle.speed_c.proofs.speed_value.Given as goal

abbrev pub invariant-loop : goal.invariant-loop
invariant-loop l = SoundParam l.p × (length l.output ≡ length l.initial.output) × (length l.store ≡ length l.initial.store)
