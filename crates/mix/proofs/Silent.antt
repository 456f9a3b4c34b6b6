-- In a direct range a value may be clamped before silence is added to it. Assumes nothing.
use mathlib.Core.Path.{◌≡◌, refl, ◌∙◌}
use mathlib.Core.Bool.{Bool, true, false, cond}
use lib.Dec.{T}
use lib.Ieee.{Float, binary32, add, lt, is_nan, fits}
use Rattle.rules.specs.declared.Bounds.{Bounds}
use Rattle.rules.specs.Numbers.{plus_zero}
use Rattle.rules.specs.Mix.{mixed, settled, clamped}
use Rattle.rounding_laws.proofs.Zero.{plus_zero_below, below_plus_zero, plus_zero_nan}
use Rattle.mix.specs.Mixed.{Direct}

module _ (b : Bounds) (direct : Direct b) (v : Float) (fit : T (fits binary32 v)) where
  abbrev x : Float
  x = add binary32 plus_zero v

  abbrev low : Float
  low = cond (lt v b.min) b.min v

  abbrev within : Float
  within = cond (lt b.max low) b.max low

  clamps : (i j : Bool) → lt v b.min ≡ i → lt b.max v ≡ j → add binary32 plus_zero within ≡ cond i b.min (cond j b.max x)
  clamps true j p q = rw (p, direct.ordered) direct.low
  clamps false true p q = rw (p, q) direct.high
  clamps false false p q = rw (p, q) refl

  -- of a number, with silence
  pub silent : is_nan v ≡ false → add binary32 plus_zero within ≡ mixed b plus_zero v
  unfolding mixed settled clamped
  silent h =
      clamps (lt v b.min) (lt b.max v) refl refl
      ∙ rw (plus_zero_nan binary32 v fit, h, plus_zero_below binary32 v fit b.min, below_plus_zero binary32 v fit b.max) refl
