-- `tally::most_steps` meets its contract: two sums. Assumes nothing.
use mathlib.Core.Path.{ap, ◌∙◌}
use Prim.Native.Nat.{ℕ, ◌+◌}
use Rattle.tally.specs.Tally.{capped}
use Rattle.tally.proofs.Kept.{capped_is, capped_most}
use Rattle.tally.proofs.most_steps.Goals as goal

pub returns : goal.returns
returns c = c.saturating_add-2.ensures ∙ capped_is _ ∙ ap (λ (n : ℕ). capped (n + c.args.t.blocks)) (c.saturating_add.ensures ∙ capped_is _) ∙ capped_most c.args.t
