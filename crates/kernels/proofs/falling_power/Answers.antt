-- `kernels::falling_power` meets its contract. Assumes nothing.
use Rattle.rules.specs.Kernels.{falling}
use Rattle.kernels.proofs.falling_power.Goals as goal

pub returns : goal.returns
unfolding falling
returns c = c.falling_from.ensures
