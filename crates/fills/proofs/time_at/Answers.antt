-- `time_at` meets its contract. Assumes nothing.
use Rattle.rules.specs.Numbers.{time_at}
use Rattle.fills.proofs.time_at.Goals as goal

pub returns : goal.returns
unfolding time_at
returns c = c.fused64.ensures
