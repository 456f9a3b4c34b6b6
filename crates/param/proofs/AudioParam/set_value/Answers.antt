-- `set_value` meets its contract. Assumes nothing.
use lib.Ieee.{of_bits}
use Rattle.param.proofs.Calls.{sets}
use Rattle.param.proofs.AudioParam.set_value.Goals as goal

pub returns : goal.returns
unfolding of_bits
returns c = sets c.set_value_at_time.ensures
