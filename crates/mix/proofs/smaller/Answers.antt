-- `smaller` meets its contract. Assumes nothing.
use Rattle.mix.proofs.smaller.Goals as goal

pub returns-then-a-b : goal.returns-then-a-b
returns-then-a-b c = rw c.if-a-b.true

pub returns-else-a-b : goal.returns-else-a-b
returns-else-a-b c = rw c.if-a-b.false
