-- `wording::is_small` meets its contract. Assumes nothing.
use Rattle.wording.specs.Plain.{is_small, is_one}
use Rattle.wording.proofs.is_small.Goals as goal

pub returns : goal.returns
unfolding is_small is_one
returns c = c.is_among.ensures
