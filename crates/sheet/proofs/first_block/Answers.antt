-- `sheet::first_block` meets its contract: what the renderer ensures, with the row's input. Assumes nothing.
use lib.Ieee.{of_bits, div}
use Rattle.sheet.specs.Played.{input_of}
use Rattle.sheet.proofs.first_block.Goals as goal

pub returns-then-row : goal.returns-then-row
unfolding input_of of_bits div
returns-then-row g c = rw c.if-row.true c.render.ensures

pub returns-else-row : goal.returns-else-row
unfolding input_of of_bits div
returns-else-row g c = rw c.if-row.false c.render-else-row.ensures
