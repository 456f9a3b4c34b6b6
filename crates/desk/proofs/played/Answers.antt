-- `desk::played` meets its contract: how many wait before and after, and what that cost. Assumes nothing.
use Rattle.desk.proofs.played.Goals as goal

pub returns : goal.returns
returns c = rw (c.after_block-totals.ensures, c.len-2.ensures, c.len.ensures)
