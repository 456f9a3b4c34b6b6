-- `vector_line::fuses32` meets its contract. Assumes nothing.
use Rattle.vector_line.specs.Line.{fuses32_to}
use Rattle.vector_line.proofs.fuses32.Goals as goal

pub returns : goal.returns
unfolding fuses32_to
returns c = cc
