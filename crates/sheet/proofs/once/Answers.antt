-- `sheet::once` meets its contract. Assumes nothing.
use mathlib.Core.Path.{refl}
use lib.Ieee.{neg, of_bits}
use Rattle.sheet.proofs.once.Goals as goal

pub returns : goal.returns
unfolding neg of_bits
returns c = refl
