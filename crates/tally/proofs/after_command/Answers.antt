-- `tally::after_command` meets its contract: what is seen of it, added. Assumes nothing.
use mathlib.Core.Path.{ap, ◌∙◌}
use Rattle.costs.specs.declared.Totals.{Totals}
use Rattle.costs.specs.Costs.{plus}
use Rattle.tally.specs.Tally.{kept}
use Rattle.tally.proofs.Kept.{command_parts}
use Rattle.tally.proofs.after_command.Goals as goal

pub returns : goal.returns
returns c =
    let a = c.args in
    c.plus.ensures ∙ ap (λ (u : Totals). kept (plus a.t u)) (command_parts a.before a.after c.saturating_sub-stored.ensures c.saturating_sub-cancelled.ensures)
