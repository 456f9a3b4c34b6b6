-- `desk::called` meets its contract: how many wait before and after, and what that cost. Assumes nothing.
use Rattle.desk.proofs.called.Goals as goal

pub returns : goal.returns
returns c =
    let t = c.told.ensures in
    (rw (t.0, c.after_command-totals.ensures, c.len-2.ensures, c.len.ensures), t.1, t.2)
