-- `sound::is_taken` meets its contract. Assumes nothing.
use Rattle.laws.specs.Sound.{is_taken}
use Rattle.refusals.proofs.sound.is_taken.Goals as goal

pub returns : goal.returns
unfolding is_taken
returns c = rw (c.is_finite.ensures, c.is_from_zero.ensures)
