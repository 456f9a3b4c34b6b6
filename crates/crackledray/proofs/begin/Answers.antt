-- `begin` meets its contract. Assumes nothing.
use Rattle.crackledray.proofs.Closing.{begins_bad, begins}
use Rattle.crackledray.proofs.begin.Goals as goal

pub returns-then-state-ne-LENGTH : goal.returns-then-state-ne-LENGTH
returns-then-state-ne-LENGTH c = begins_bad _ _ _ _ c.if-state-ne-LENGTH.true

pub returns : goal.returns
returns c =
    begins c.if-state-ne-LENGTH.false c.with_edition-r.ensures c.encode.ensures c.number_of.ensures
