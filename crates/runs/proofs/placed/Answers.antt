-- `runs::placed` meets its contract. Assumes nothing.
use lib.Ieee.{of_bits}
use Rattle.rules.specs.Numbers.{plus_zero}
use Rattle.runs.proofs.Placing.{kept_no_nan, kept_placed}
use Rattle.runs.proofs.placed.Goals as goal

pub float_to_bits-result : goal.float_to_bits-result
unfolding of_bits
float_to_bits-result c = kept_no_nan plus_zero c.below.result c.above-z.result c.above-z.ensures

pub returns : goal.returns
unfolding of_bits
returns c =
    kept_placed c.args.few c.args.x c.args.top c.below.result c.above-z.result c.requires.0 c.requires.1 c.below.ensures c.above-z.ensures
