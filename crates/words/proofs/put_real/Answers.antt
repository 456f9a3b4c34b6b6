-- `words::put_real` meets its contract: the bytes of its bits. Assumes nothing.
use mathlib.Core.Path.{◌∙◌}
use Rattle.words.proofs.Turns.{put_bits}
use Rattle.words.proofs.put_real.Goals as goal

pub returns : goal.returns
returns g c = put_bits g.T.Real.format _ _ (c.DIGITS.ensures ∙ g.met.T.Real.digits_is) c.bits.ensures.is c.put_number.ensures
