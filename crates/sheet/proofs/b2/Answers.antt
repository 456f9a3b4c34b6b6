-- `sheet::b2` meets its contract. Assumes nothing.
use Rattle.std.proofs.Common.{refl}
use lib.Ieee.{neg, of_bits}
use Rattle.sheet.proofs.b2.Goals as goal

pub returns : goal.returns
unfolding neg of_bits
returns c = rw (c.once.ensures, c.step.ensures) refl
