-- What a call leaves of the output that it is lent: its samples, then what was there. And what a range is in which values can be clamped before silence is added.
use Rattle.std.specs.Prelude.{◌≡◌, Bool, true, false, List, ◌++◌, ℕ, length, drop, Float}
use Rattle.std.specs.Float.{binary32}
use Rattle.std.specs.Float.Ieee.{add, lt}
use Rattle.rules.specs.declared.Bounds.{Bounds}
use Rattle.rules.specs.Numbers.{plus_zero}

unfoldable pub over : List Float → List Float → List Float
over samples output = samples ++ drop (length samples) output

-- in order, with ends that a sum with 0 leaves as they are
pub record Direct (b : Bounds) : Type 0 where
  pub ordered : lt b.max b.min ≡ false
  pub low : add binary32 plus_zero b.min ≡ b.min
  pub high : add binary32 plus_zero b.max ≡ b.max

-- n samples are written over the output, or only that is told that no other place is changed
pub record Tried (samples : List Float) (n : ℕ) (output : List Float) (told : Bool) (after : List Float) : Type 0 where
  pub rest : drop n after ≡ drop n output
  pub written : told ≡ true → after ≡ over samples output
