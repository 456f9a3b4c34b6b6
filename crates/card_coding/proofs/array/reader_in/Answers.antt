-- `array::reader_in` meets its contract. Assumes nothing.
use Rattle.card_coding.proofs.Kept.{reads_card}
use Rattle.card_coding.proofs.array.reader_in.Goals as goal

pub returns : goal.returns
returns c =
    reads_card c.args.card.now c.requires.1 c.decode.ensures c.rate_in.ensures c.time_in.ensures
