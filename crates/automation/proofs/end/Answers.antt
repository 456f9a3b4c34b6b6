-- `end` meets its contract. Assumes nothing.
use Rattle.automation.proofs.Heads.{ends}
use Rattle.automation.proofs.end.Goals as goal

pub returns : goal.returns
returns c =
    let a = c.args in
    rw c.with_filled.ensures (ends a.infos a.walk a.buffer.now a.at a.head c.fill_value-filled.ensures)
