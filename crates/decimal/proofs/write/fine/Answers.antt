-- `decimal::write::fine` meets its contract: by the product's two halves. Assumes nothing.
use Rattle.std.proofs.Common.{◌∙◌}
use Rattle.decimal.proofs.Showing.{no_rest, some_rest}
use Rattle.decimal.proofs.write.fine.Goals as goal

pub returns-then-low-eq0 : goal.returns-then-low-eq0
returns-then-low-eq0 c = c.rounded.ensures ∙ no_rest _ _ c.requires.1 c.if-low-eq0.true

pub returns-else-low-eq0 : goal.returns-else-low-eq0
returns-else-low-eq0 c = c.rounded-else-low-eq0.ensures ∙ some_rest _ _ c.requires.1 c.if-low-eq0.false
