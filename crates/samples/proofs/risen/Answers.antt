-- `samples::risen` meets its contract. Assumes nothing.
use Rattle.std.proofs.Common.{◌∙◌, arith}
use lib.Ieee.{of_bits, nan_bits}
use Rattle.samples.proofs.Powers.{far_up, rise_whole, rise_part}
use Rattle.samples.proofs.risen.Goals as goal

pub float_from_bits-result : goal.float_from_bits-result
unfolding nan_bits
float_from_bits-result c = tt

pub returns-then-n-ge4294967296 : goal.returns-then-n-ge4294967296
unfolding of_bits
returns-then-n-ge4294967296 c = far_up c.args.n c.if-n-ge4294967296.true

pub returns-then-f-eq0 : goal.returns-then-f-eq0
returns-then-f-eq0 c = c.norm.ensures ∙ rise_whole c.args.n c.if-n-ge4294967296.false c.if-f-eq0.true

pub returns-else-f-eq0 : goal.returns-else-f-eq0
returns-else-f-eq0 c =
    c.norm-else-f-eq0.ensures ∙ rw c.falling_power.ensures (rise_part c.args.n c.if-n-ge4294967296.false (omega arith))
