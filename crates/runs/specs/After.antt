-- The times of a run.
use Rattle.std.specs.Prelude.{ℕ, zero, suc, Float}
use Rattle.std.specs.Float.{binary64}
use Rattle.std.specs.Float.Ieee.{add}

-- t, with the period added i times: the time of a run's place i
unfoldable pub after : Float → ℕ → Float → Float
after period zero t = t
after period (suc i) t = add binary64 (after period i t) period
