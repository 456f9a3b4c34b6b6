-- `sheet::play_from_zeros` meets its contract: its buffers are zeros. Assumes nothing.
use lib.Ieee.{of_bits}
use Rattle.sheet.proofs.play_from_zeros.Goals as goal

pub returns : goal.returns
unfolding of_bits
returns g c = c.play-blocks.ensures
