-- `text::read::bits_in` meets its contract: by the length of the word. Assumes nothing.
use borrow.Author.Tests.{eq-eqb, ne_eqb}
use Rattle.text.specs.Digits.{bits_in}
use Rattle.text.proofs.read.bits_in.Goals as goal

pub returns-then-word-digits : goal.returns-then-word-digits
unfolding bits_in
returns-then-word-digits c = rw (ne_eqb _ _ c.if-word-digits.true)

pub returns : goal.returns
unfolding bits_in
returns c = rw (eq-eqb _ _ c.if-word-digits.false) c.number_in.ensures
