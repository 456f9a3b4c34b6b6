-- `text::read::real_in` meets its contract: the digits of the word, or that it is unread. Assumes nothing.
use mathlib.Core.Path.{ap, ◌∙◌}
use Rattle.std.specs.Prelude.{Some, option_map}
use Rattle.text.specs.Floats.{float_in}
use Rattle.text.proofs.Reading.{read, unread}
use Rattle.text.proofs.read.real_in.Goals as goal

pub returns-in_err-bits : goal.returns-in_err-bits
unfolding float_in
returns-in_err-bits g c = ap (option_map g.T.Real.value) c.from_residual.ensures ∙ unread g.T.Real.format _ _ (c.DIGITS.ensures ∙ g.met.T.Real.digits_is) c.in_err-bits.ensures

pub returns : goal.returns
unfolding float_in
returns g c = ap Some c.of_bits.ensures ∙ read g.T.Real.format _ _ (c.DIGITS.ensures ∙ g.met.T.Real.digits_is) c.in_ok-bits.ensures
