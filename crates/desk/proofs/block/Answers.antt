-- `desk::block` meets its contract: the output is marked. Assumes nothing.
use Rattle.desk.proofs.Blocks.{marked, marks_long, with_output}
use Rattle.desk.proofs.block.Goals as goal

pub slice_bounds-play-end : goal.slice_bounds-play-end
slice_bounds-play-end c = marks_long 4096 c.args.len c.requires.1

pub returns : goal.returns
returns c = with_output _ _ _ _ (marked 4096 c.args.len c.requires.1) c.play.ensures
