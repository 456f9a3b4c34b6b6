-- `speed_value` is safe and ends. Assumes nothing.
use mathlib.Core.Path.{refl}
use native.Mathlib.Omega.{arith}
use Rattle.speed_c.proofs.speed_value.Goals as goal

pub loop-init : goal.loop-init
loop-init c = (c.decode-d.ensures.sound, refl, refl)

pub process-r-requires : goal.process-r-requires
process-r-requires c = c.loop.invariant.0
