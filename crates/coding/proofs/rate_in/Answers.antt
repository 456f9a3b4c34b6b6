-- `rate_in` meets its contract. Assumes nothing.
use borrow.Author.Tests.{eq-eqb, ne_eqb}
use Rattle.coding.specs.Coding.{rate_in}
use Rattle.coding.proofs.rate_in.Goals as goal

pub returns-then-word-eq0 : goal.returns-then-word-eq0
unfolding rate_in
returns-then-word-eq0 c = rw (eq-eqb _ 0 c.if-word-eq0.true)

pub returns-else-word-eq0 : goal.returns-else-word-eq0
unfolding rate_in
returns-else-word-eq0 c = rw (ne_eqb _ 0 c.if-word-eq0.false)
