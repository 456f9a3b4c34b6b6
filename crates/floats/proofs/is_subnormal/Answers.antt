-- `floats::is_subnormal` meets its contract. Assumes nothing.
use lib.Ieee.{of_bits}
use Rattle.floats.proofs.Compared.{subnormal_below, none_subnormal}
use Rattle.floats.proofs.is_subnormal.Goals as goal

pub returns-then-x : goal.returns-then-x
unfolding of_bits
returns-then-x c = rw c.magnitude.ensures (subnormal_below c.args.x c.if-x.true)

pub returns-else-x : goal.returns-else-x
unfolding of_bits
returns-else-x c = none_subnormal c.args.x c.if-x.false
