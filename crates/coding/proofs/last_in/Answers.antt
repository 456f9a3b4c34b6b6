-- `last_in` meets its contract. Assumes nothing.
use borrow.Author.Tests.{eq-eqb, ne_eqb}
use Rattle.coding.specs.Coding.{last_in}
use Rattle.coding.proofs.last_in.Goals as goal

pub returns-then-flag-eq0 : goal.returns-then-flag-eq0
unfolding last_in
returns-then-flag-eq0 c = rw (eq-eqb _ 0 c.if-flag-eq0.true)

pub returns-else-flag-eq0 : goal.returns-else-flag-eq0
unfolding last_in
returns-else-flag-eq0 c = rw (ne_eqb _ 0 c.if-flag-eq0.false, c.of_bits.ensures, c.of_bits-else-flag-eq0.ensures)
