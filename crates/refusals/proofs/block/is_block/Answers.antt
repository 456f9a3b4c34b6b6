-- `is_block` meets its contract: a test for each part of the row. Assumes nothing.
use Rattle.rules.specs.Refusals.{is_block}
use Rattle.refusals.proofs.Lent.{fits_test}
use Rattle.refusals.proofs.block.is_block.Goals as goal

pub returns : goal.returns
unfolding is_block
returns c is os i o = rw (c.is_time.ensures, c.is_period.ensures, c.is_count.ensures, fits_test is _ i, o)
