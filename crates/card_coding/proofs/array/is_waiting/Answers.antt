-- `array::is_waiting` meets its contract. Assumes nothing.
use borrow.Author.Tests.{eq-eqb, ne_eqb}
use Rattle.card_coding.specs.Array.{is_going, is_waiting}
use Rattle.card_coding.proofs.array.is_waiting.Goals as goal

pub returns-then-card-ne0 : goal.returns-then-card-ne0
unfolding is_waiting is_going
returns-then-card-ne0 c = rw (ne_eqb _ 0 c.if-card-ne0.true)

pub returns-else-card-ne0 : goal.returns-else-card-ne0
unfolding is_waiting is_going
returns-else-card-ne0 c = rw (eq-eqb _ 0 c.if-card-ne0.false, c.is_whole.ensures)
