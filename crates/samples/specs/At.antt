-- The samples of document 01 at a time, over what is worked out once a ramp: the difference of a linear ramp or a target, the log of an exponential's ratio.
use Rattle.std.specs.Prelude.{◌*◌, ℤ, Float}
use Rattle.std.specs.Float.Ieee as Ieee
use Rattle.std.specs.Float.{nan, inf, fin, binary32, binary64}
use Rattle.rules.specs.Numbers.{fused, narrowed}
use Rattle.rules.specs.Samples.{phase_of, factor_of, exponential_by, decay, log2e}

unfoldable pub linear_at : Float → Float → Float → Float → Float → Float
linear_at start duration from diff time = fused binary32 diff (narrowed (phase_of start duration time)) from

unfoldable pub exponential_at : Float → Float → Float → ℤ → Float → Float
exponential_at start duration from log time = exponential_by log from (phase_of start duration time)

-- the same with L as an f64, l
unfoldable pub exponential_over : Float → Float → Float → Float → Float → Float
exponential_over start duration from l time = narrowed (Ieee.mul binary64 from (factor_of (Ieee.mul binary64 l (phase_of start duration time))))

unfoldable pub target_at : Float → Float → Float → Float → Float → Float
target_at start constant target diff time = fused binary32 diff (decay (Ieee.mul binary64 (phase_of start constant time) log2e)) target

-- an exact value as an f64 holds it
unfoldable pub held : Float → Float
held nan = nan
held (inf s) = inf s
held (fin s m e) = Ieee.round binary64 s (m * Ieee.up e) (Ieee.down e)
