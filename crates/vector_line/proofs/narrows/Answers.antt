-- `vector_line::narrows` meets its contract. Assumes nothing.
use Rattle.vector_line.specs.Line.{narrows_to}
use Rattle.vector_line.proofs.narrows.Goals as goal

pub returns : goal.returns
unfolding narrows_to
returns c = cc
