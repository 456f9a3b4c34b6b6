-- `runs::faded` meets its contract. Assumes nothing.
use Rattle.std.proofs.Common.{ℕ, not, T, sym, subst}
use lib.Ieee.{binary64, nan_bits}
use Rattle.runs.proofs.Shown.{shown_nan}
use Rattle.runs.proofs.faded.Goals as goal

pub float_from_bits-shown_by : goal.float_from_bits-shown_by
float_from_bits-shown_by g c = subst (λ (n : ℕ). T (not (nan_bits binary64 n))) (sym c.shown_by.ensures) (shown_nan (c.requires.factors c.loop-i.i c.loop-i-test.true).0)
