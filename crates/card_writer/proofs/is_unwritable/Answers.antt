-- `is_unwritable` meets its contract. Assumes nothing.
use Rattle.card.specs.Card.{is_unwritable}
use Rattle.card_writer.proofs.is_unwritable.Goals as goal

pub returns : goal.returns
unfolding is_unwritable
returns c = rw (c.is_held.ensures, c.all_finite.ensures)
