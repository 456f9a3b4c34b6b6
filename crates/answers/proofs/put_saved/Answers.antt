-- `answers::put_saved` meets its contract: its word, and the bytes. Assumes nothing.
use native.Mathlib.Omega.{arith}
use Rattle.text.proofs.Writing.{put_then}
use Rattle.text.proofs.Pairs.{bytes_length}
use Rattle.answers.specs.Answers.{saved_text}
use Rattle.answers.proofs.put_saved.Goals as goal

pub returns : goal.returns
unfolding saved_text
returns c = record {
  put = put_then c.put_word-next.ensures c.put_bytes.ensures (omega arith);
  upper_bound = omega (arith, c.put_bytes.ensures.place, bytes_length c.args.file.now);
}
