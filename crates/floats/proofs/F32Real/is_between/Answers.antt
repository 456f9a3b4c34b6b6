-- `floats::F32Real::is_between` meets its contract. Assumes nothing.
use lib.Ieee.{of_bits}
use Rattle.floats.proofs.Compared.{between}
use Rattle.floats.proofs.F32Real.is_between.Goals as goal

pub returns : goal.returns
unfolding of_bits
returns c = between c.args.self
