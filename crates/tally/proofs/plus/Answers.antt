-- `tally::plus` meets its contract: field by field. Assumes nothing.
use mathlib.Core.Path.{◌∙◌}
use Rattle.costs.specs.Costs.{plus}
use Rattle.tally.specs.Tally.{kept}
use Rattle.tally.proofs.Kept.{capped_is}
use Rattle.tally.proofs.plus.Goals as goal

pub returns : goal.returns
unfolding kept plus
returns c =
    rw (c.saturating_add.ensures ∙ capped_is _, c.saturating_add-2.ensures ∙ capped_is _, c.saturating_add-3.ensures ∙ capped_is _, c.saturating_add-4.ensures ∙ capped_is _, c.saturating_add-5.ensures ∙ capped_is _, c.saturating_add-6.ensures ∙ capped_is _)
