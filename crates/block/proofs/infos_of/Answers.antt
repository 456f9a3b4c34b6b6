-- `infos_of` meets its contract. Assumes nothing.
use Rattle.rules.specs.Block.{infos_of}
use Rattle.block.proofs.infos_of.Goals as goal

pub returns : goal.returns
unfolding infos_of
returns c is os = rw (c.fused64.ensures, c.taken_time-time.ensures)
