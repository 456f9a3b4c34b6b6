-- `after` meets its contract. Assumes nothing.
use lib.Ieee.{of_bits}
use Rattle.param.proofs.AudioParam.after.Goals as goal

pub returns : goal.returns
unfolding of_bits
returns c = rw c.mixed_value.ensures
