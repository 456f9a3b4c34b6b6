-- `clashes::covered_by` meets its contract. Assumes nothing.
use Rattle.timeline.proofs.Steps.{first_is}
use Rattle.clashes.specs.Clashes.{covered_by}
use Rattle.clashes.proofs.covered_by.Goals as goal

pub returns : goal.returns
unfolding covered_by
returns c = rw (c.curve_in.ensures, c.covering.ensures, first_is, c.taken_time.ensures)
