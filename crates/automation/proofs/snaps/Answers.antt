-- `snaps` meets its contract. Assumes nothing.
use lib.Ieee as Ieee
use Rattle.rules.specs.Walk.{snaps}
use Rattle.automation.proofs.snaps.Goals as goal

pub returns : goal.returns
unfolding snaps Ieee.of_bits
returns c = rw c.magnitude.ensures
