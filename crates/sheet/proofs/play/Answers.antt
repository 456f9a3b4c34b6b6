-- `sheet::play` meets its contract: its calls in turn. Assumes nothing.
use lib.Ieee.{of_bits}
use Rattle.sheet.proofs.Rendered.{plays_row}
use Rattle.sheet.proofs.play.Goals as goal

pub returns : goal.returns
unfolding of_bits
returns g c = plays_row c.set_up-p.ensures c.first_block-before.ensures c.ask-asked.ensures c.render-after.ensures
