-- `decimal::write::put_time` meets its contract. Assumes nothing.
use Rattle.std.proofs.Common.{ap}
use lib.Ieee.{binary64}
use Rattle.text.proofs.Writing.{put_same}
use Rattle.decimal.specs.Shown.{text_of, plain_text}
use Rattle.decimal.proofs.write.put_time.Goals as goal

pub returns : goal.returns
unfolding plain_text
returns c = put_same (ap (text_of binary64 _) c.shown.ensures) c.put_number.ensures
