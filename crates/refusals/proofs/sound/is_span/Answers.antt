-- `sound::is_span` meets its contract. Assumes nothing.
use Rattle.laws.specs.Sound.{is_span}
use Rattle.refusals.proofs.sound.is_span.Goals as goal

pub returns : goal.returns
unfolding is_span
returns c = rw (c.before.before.is_taken.ensures, c.is_taken_if_any.ensures, c.is_held_by.ensures)
