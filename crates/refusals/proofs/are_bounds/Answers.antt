-- `are_bounds` meets its contract. Assumes nothing.
use Rattle.rules.specs.Refusals.{are_bounds}
use Rattle.refusals.proofs.Rows.{one_finite, more_finite}
use Rattle.refusals.proofs.are_bounds.Goals as goal

pub returns : goal.returns
unfolding are_bounds
returns c = rw (more_finite _ _ c.is_finite.ensures (more_finite _ _ c.is_finite-2.ensures (one_finite _ c.is_finite-3.ensures)))
