-- `is_period` meets its contract. Assumes nothing.
use Rattle.rules.specs.Refusals.{is_period}
use Rattle.refusals.proofs.block.is_period.Goals as goal

pub returns : goal.returns
unfolding is_period
returns c = rw (c.is_finite.ensures, c.is_positive.ensures)
