-- `decimal::read::signed` meets its contract: a whole number up to 2 ^ 53 is an f64. Assumes nothing.
use Rattle.std.proofs.Common.{false, le→leb}
use lib.Ieee.{binary64, in_float, of_int}
use lib.Ieee.Back.{round_whole}
use Rattle.decimal.proofs.Scaling.{negated}
use Rattle.decimal.proofs.read.signed.Goals as goal

pub int_to_float-result : goal.int_to_float-result
unfolding in_float
int_to_float-result c = le→leb _ _ c.requires

pub int_to_float-result-else-minus : goal.int_to_float-result-else-minus
unfolding in_float
int_to_float-result-else-minus c = le→leb _ _ c.requires

pub returns-then-minus : goal.returns-then-minus
unfolding of_int
returns-then-minus c = rw c.if-minus.true (negated _ _ (round_whole binary64 false _ c.requires))

pub returns-else-minus : goal.returns-else-minus
unfolding of_int
returns-else-minus c = rw c.if-minus.false (round_whole binary64 false _ c.requires)
