-- Document 01, "Mix".
use Rattle.std.specs.Prelude.{cond, List, [], ◌∷◌, ℕ, replicate, Float}
use Rattle.std.specs.Float.Ieee as Ieee
use Rattle.std.specs.Float.{binary32}
use Rattle.rules.specs.declared.Bounds.{Bounds}
use Rattle.rules.specs.declared.AutomationRate.{AutomationRate}
use Rattle.rules.specs.declared.AutomationRate.TheVariants as Rate
use Rattle.rules.specs.Numbers.{plus_zero}

-- "clamped, a sample equal to a bound unchanged"
unfoldable pub clamped : Bounds → Float → Float
clamped b x = cond (Ieee.lt x b.min) b.min (cond (Ieee.lt b.max x) b.max x)

-- "NaN becomes the default; else clamped"
unfoldable pub settled : Bounds → Float → Float
settled b x = cond (Ieee.is_nan x) b.default (clamped b x)

-- "Each sample is input + value in f32"
unfoldable pub mixed : Bounds → Float → Float → Float
mixed b input value = settled b (Ieee.add binary32 input value)

unfoldable pub mixed_all : Bounds → List Float → List Float → List Float
mixed_all b [] vs = []
mixed_all b (i ∷ is) [] = []
mixed_all b (i ∷ is) (v ∷ vs) = mixed b i v ∷ mixed_all b is vs

unfoldable pub first_of : List Float → Float
first_of [] = plus_zero
first_of (x ∷ xs) = x

-- one for each place: its own at A-rate; "K-rate uses the first .. and repeats it"
unfoldable pub spread : AutomationRate → ℕ → List Float → List Float
spread Rate.A count xs = xs
spread Rate.K count xs = replicate count (first_of xs)

-- "An input of length 0 is silence, taken as 0."
unfoldable pub inputs : AutomationRate → ℕ → List Float → List Float
inputs r count [] = replicate count plus_zero
inputs r count (x ∷ xs) = spread r count (x ∷ xs)
