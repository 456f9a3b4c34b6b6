-- `text::write::put_real` meets its contract: the digits of its bits. Assumes nothing.
use mathlib.Core.Path.{ap, ◌∙◌}
use Prim.Native.Nat.{ℕ}
use Rattle.text.specs.Digits.{digits_of}
use Rattle.text.specs.Floats.{digits_for, float_text}
use Rattle.text.proofs.Writing.{put_same}
use Rattle.text.proofs.write.put_real.Goals as goal

pub returns : goal.returns
unfolding float_text
returns g c =
    let e = c.DIGITS.ensures ∙ g.met.T.Real.digits_is in
    put_same (ap (λ (k : ℕ). digits_of 16 k c.bits.result) e ∙ ap (digits_of 16 (digits_for g.T.Real.format)) c.bits.ensures.is) c.put_digits.ensures
