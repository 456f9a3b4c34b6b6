-- `sound::is_due` meets its contract. Assumes nothing.
use Rattle.refusals.proofs.sound.is_due.Goals as goal

pub returns : goal.returns
returns c = rw c.is_finite.ensures
