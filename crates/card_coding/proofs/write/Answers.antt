-- `write` meets its contract. Assumes nothing.
use Rattle.card_coding.proofs.Calls.{writes_bad, writes}
use Rattle.card_coding.proofs.write.Goals as goal

pub returns-in_default : goal.returns-in_default
returns-in_default c = writes_bad c.decode-d.ensures c.in_default.is

pub returns : goal.returns
returns c = writes c.decode-d.ensures c.in-Ok.is c.write-said.ensures c.verdict_number.ensures
