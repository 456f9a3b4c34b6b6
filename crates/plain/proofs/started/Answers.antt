-- `started` meets its contract. Assumes nothing.
use Rattle.plain.proofs.started.Goals as goal

pub returns : goal.returns
returns c = rw c.start_of.ensures
