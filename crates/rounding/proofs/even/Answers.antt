-- `rounding::even` meets its contract. Assumes nothing.
use native.Mathlib.Omega.{arith}
use Rattle.rounding_laws.proofs.Cut.{even_nan}
use Rattle.rounding.proofs.even.Goals as goal

pub float_from_bits-result : goal.float_from_bits-result
float_from_bits-result c = even_nan c.args.n (omega arith) c.requires.0 c.requires.1
