-- `is_time` meets its contract. Assumes nothing.
use Rattle.rules.specs.Refusals.{is_time}
use Rattle.refusals.proofs.block.is_time.Goals as goal

pub returns : goal.returns
unfolding is_time
returns c = rw (c.is_finite.ensures, c.is_negative.ensures)
