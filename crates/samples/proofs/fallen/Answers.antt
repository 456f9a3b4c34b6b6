-- `samples::fallen` meets its contract. Assumes nothing.
use Rattle.std.proofs.Common.{◌∙◌}
use lib.Ieee.{of_bits}
use Rattle.samples.proofs.Powers.{far, near}
use Rattle.samples.proofs.fallen.Goals as goal

pub returns-then-n-ge5033164800 : goal.returns-then-n-ge5033164800
unfolding of_bits
returns-then-n-ge5033164800 c = far c.args.n c.if-n-ge5033164800.true

pub returns : goal.returns
returns c =
    c.norm.ensures ∙ rw c.falling_power.ensures (near c.args.n c.if-n-ge5033164800.false)
