-- `array::put_card` meets its contract. Assumes nothing.
use Rattle.card_coding.proofs.Kept.{puts_card}
use Rattle.card_coding.proofs.array.put_card.Goals as goal

pub returns : goal.returns
returns c = puts_card c.requires.0 c.requires.1 c.put_head.ensures c.encode.ensures
