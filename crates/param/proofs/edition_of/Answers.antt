-- `edition_of` meets its contract. Assumes nothing.
use borrow.Author.Tests.{ne_eqb}
use Rattle.rules.specs.Block.{edition_of}
use Rattle.param.proofs.edition_of.Goals as goal

pub returns-then-number-eq2 : goal.returns-then-number-eq2
unfolding edition_of
returns-then-number-eq2 c = rw c.if-number-eq2.true

pub returns-else-number-eq2 : goal.returns-else-number-eq2
unfolding edition_of
returns-else-number-eq2 c = rw (ne_eqb _ _ c.if-number-eq2.false)
