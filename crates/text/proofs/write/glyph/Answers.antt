-- `text::write::glyph` meets its contract: below 10 a figure, else a letter. Assumes nothing.
use borrow.Author.Tests.{lt-ltb, le-ltb}
use Rattle.text.specs.Digits.{glyph_of}
use Rattle.text.proofs.write.glyph.Goals as goal

pub returns-then-d-lt10 : goal.returns-then-d-lt10
unfolding glyph_of
returns-then-d-lt10 c = rw (lt-ltb _ 10 c.if-d-lt10.true)

pub returns-else-d-lt10 : goal.returns-else-d-lt10
unfolding glyph_of
returns-else-d-lt10 c = rw (le-ltb _ 10 c.if-d-lt10.false)
