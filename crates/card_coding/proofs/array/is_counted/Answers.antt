-- `array::is_counted` meets its contract. Assumes nothing.
use Rattle.card_coding.proofs.Kept.{uncounted, counted}
use Rattle.card_coding.proofs.array.is_counted.Goals as goal

pub returns-in_default : goal.returns-in_default
returns-in_default c = uncounted _ c.decode-d.ensures c.in_default.is

pub returns : goal.returns
returns c = counted _ c.decode-d.ensures c.in-Ok.is c.len.ensures c.bytes_counted.ensures
