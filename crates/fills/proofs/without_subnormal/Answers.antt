-- `without_subnormal` meets its contract. Assumes nothing.
use lib.Ieee as Ieee
use Rattle.fills.proofs.without_subnormal.Goals as goal

pub returns-then-is_subnormal : goal.returns-then-is_subnormal
unfolding Ieee.of_bits
returns-then-is_subnormal c = rw (← c.is_subnormal.ensures, c.if-is_subnormal.true)

pub returns-else-is_subnormal : goal.returns-else-is_subnormal
returns-else-is_subnormal c = rw (← c.is_subnormal.ensures, c.if-is_subnormal.false)
