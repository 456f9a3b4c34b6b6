-- `refused_block` meets its contract. Assumes nothing.
use mathlib.Core.Path.{refl}
use lib.Ieee.{of_bits}
use Rattle.param.proofs.AudioParam.refused_block.Goals as goal

pub returns : goal.returns
unfolding of_bits
returns c = refl
