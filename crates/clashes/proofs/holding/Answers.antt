-- `clashes::holding` meets its contract. Assumes nothing.
use Rattle.timeline.proofs.Steps.{first_is}
use Rattle.clashes.specs.Clashes as rule
use Rattle.clashes.proofs.holding.Goals as goal

pub returns : goal.returns
unfolding rule.holding
returns c = rw (c.event_in.ensures, c.filed_inside.ensures, first_is, c.curve_end-end.ensures, c.taken_time-start.ensures)
