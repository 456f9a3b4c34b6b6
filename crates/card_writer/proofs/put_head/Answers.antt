-- `put_head` meets its contract. Assumes nothing.
use native.Mathlib.Omega.{arith}
use Rattle.text.proofs.Writing.{put_then}
use Rattle.card_writer.proofs.put_head.Goals as goal

pub returns : goal.returns
returns c = put_then c.put_byte-next.ensures c.put_number.ensures (omega arith)
