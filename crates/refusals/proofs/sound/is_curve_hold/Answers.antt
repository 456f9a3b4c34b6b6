-- `sound::is_curve_hold` meets its contract. Assumes nothing.
use Rattle.laws.specs.Sound.{is_curve_hold}
use Rattle.refusals.proofs.sound.is_curve_hold.Goals as goal

pub returns : goal.returns
unfolding is_curve_hold
returns c = rw (c.is_held_from.ensures, c.is_held_by.ensures, c.is_taken_if_any.ensures)
