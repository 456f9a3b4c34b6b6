-- `runs::lifted_at` meets its contract. Assumes nothing.
use lib.Ieee.{of_bits, neg}
use Rattle.runs.proofs.Placing.{kept_no_nan}
use Rattle.runs.proofs.Lifting.{low, kept_lifted}
use Rattle.runs.proofs.lifted_at.Goals as goal

pub float_to_bits-result : goal.float_to_bits-result
unfolding of_bits neg
float_to_bits-result c = kept_no_nan low c.below.result c.above-z.result c.above-z.ensures

pub returns : goal.returns
unfolding of_bits neg
returns c = kept_lifted c.args.x c.below.result c.above-z.result c.below.ensures c.above-z.ensures
