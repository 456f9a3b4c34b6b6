-- `writes_none` meets its contract, by the rate. Assumes nothing.
use Rattle.fills.specs.Filled.{writes_none}
use Rattle.fills.proofs.writes_none.Goals as goal

pub returns-in-K : goal.returns-in-K
unfolding writes_none
returns-in-K c = rw c.in-K.is

pub returns-in-A : goal.returns-in-A
unfolding writes_none
returns-in-A c = rw c.in-A.is
