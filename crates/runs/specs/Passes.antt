-- What a pass makes of the numbers of the one before.
use Rattle.std.specs.Prelude.{ℕ, zero, suc, Bool, true, not, ◌&&◌, List, [], ◌∷◌, Float}
use Rattle.std.specs.Float.{binary32, binary64}
use Rattle.std.specs.Float.Ieee.{add, lt}
use Rattle.rules.specs.Numbers.{fused, narrowed}

-- f of each number
unfoldable pub each : (Float → Float) → List Float → List Float
each f [] = []
each f (x ∷ xs) = f x ∷ each f xs

-- a linear ramp's sample at the phase x
unfoldable pub phase_sum : Float → Float → Float → Float
phase_sum from diff x = fused binary32 diff (narrowed x) from

-- whether none of n times lies before the start: the first is t, each next one a period later
unfoldable pub begun : Float → Float → ℕ → Float → Bool
begun start period zero t = true
begun start period (suc n) t = not (lt t start) && begun start period n (add binary64 t period)
