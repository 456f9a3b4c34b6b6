-- `vector_line::is_same` meets its contract: by the pattern, of which a NaN has one. Assumes nothing.
use Rattle.std.proofs.Common.{refl}
use Rattle.vector_line.specs.Line.{same}
use Rattle.vector_line.proofs.is_same.Goals as goal

pub returns : goal.returns
unfolding same
returns g c = rw (c.bits.ensures.is, c.bits-2.ensures.is) refl
