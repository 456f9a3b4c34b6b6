-- `fresh` meets its contract. Assumes nothing.
use Rattle.param.proofs.AudioParam.fresh.Goals as goal

pub returns : goal.returns
returns c = rw c.new.ensures
