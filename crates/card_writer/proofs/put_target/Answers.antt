-- `put_target` meets its contract: one part behind the other. Assumes nothing.
use native.Mathlib.Omega.{arith}
use Rattle.text.proofs.Writing.{put_then}
use Rattle.words.specs.Words.{bytes_of, single_bytes, double_bytes}
use Rattle.card_writer.proofs.put_target.Goals as goal

pub put_real-next-requires : goal.put_real-next-requires
unfolding bytes_of single_bytes double_bytes
put_real-next-requires c = omega arith

pub put_real-next-requires-2 : goal.put_real-next-requires-2
unfolding bytes_of single_bytes double_bytes
put_real-next-requires-2 c = omega arith

pub put_real-requires : goal.put_real-requires
unfolding bytes_of single_bytes double_bytes
put_real-requires c = omega arith

pub returns : goal.returns
unfolding bytes_of single_bytes double_bytes
returns c =
    put_then c.put_head-next.ensures (put_then c.put_real-next.ensures (put_then c.put_real-next-2.ensures c.put_real.ensures (omega arith)) (omega arith)) (omega arith)
