-- `wording::put_spaced` meets its contract: a space, then the word. Assumes nothing.
use native.Mathlib.Omega.{arith}
use Rattle.text.proofs.Writing.{put_then}
use Rattle.wording.specs.Plain.{spaced}
use Rattle.wording.proofs.put_spaced.Goals as goal

pub returns : goal.returns
unfolding spaced
returns c = put_then c.put_byte-to.ensures c.put_word.ensures (omega (arith, c.put_byte-to.ensures.place))
