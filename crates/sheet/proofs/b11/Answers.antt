-- `sheet::b11` meets its contract. Assumes nothing.
use Rattle.std.proofs.Common.{refl}
use lib.Ieee.{neg, of_bits}
use Rattle.sheet.proofs.b11.Goals as goal

pub returns : goal.returns
unfolding neg of_bits
returns c = rw c.once.ensures refl
