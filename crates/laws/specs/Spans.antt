-- 02, C-12: "a curve whose span, both ends included, holds the cancel time".
use Rattle.std.specs.Prelude.{Bool, false, ◌&&◌, Float}
use Rattle.std.specs.Float.Ieee as Ieee
use Rattle.rules.specs.declared.Event.{Event}
use Rattle.rules.specs.Queue.{curve_end}

unfoldable pub spans : Float → Event → Bool
spans c (Event.Step v t) = false
spans c (Event.Linear v t h) = false
spans c (Event.Exponential v t h) = false
spans c (Event.Target v t k h) = false
spans c (Event.Curve s d n h) = Ieee.le s c && Ieee.le c (curve_end s d h)
