-- `sound::is_end_of` meets its contract: 0 + t is t, for the time is an `f64`. Assumes nothing.
use mathlib.Core.Path.{sym, subst}
use lib.Dec.{T}
use lib.Ieee.{binary64, fits}
use Rattle.rounding_laws.proofs.Zero.{below_plus_zero}
use Rattle.laws.specs.Sound.{is_end_of}
use Rattle.refusals.proofs.sound.is_end_of.Goals as goal
use Rattle.refusals.proofs.sound.is_end_of.Goals.{Start}

held : (c : Start) → T (fits binary64 c.args.time)
held c = subst T (sym c.well_formed.0.1) tt

pub returns : goal.returns
unfolding is_end_of
returns c = let a = c.before in rw (c.is_from_zero.ensures, below_plus_zero binary64 c.args.time (held a) c.args.end)
