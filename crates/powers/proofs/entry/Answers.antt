-- `powers::entry` meets its contract: the table's rule, computed once for every entry. Assumes nothing.
use Rattle.std.proofs.Common.{◌≡◌, ℕ, List, get_or, ap, ◌∙◌}
use Rattle.rules.specs.Kernels.{falling_from}
use Rattle.kernels.proofs.Roots.{table_is}
use Rattle.powers.specs.declared.TheConstants.{TABLE}
use Rattle.powers.specs.Estimates.{product_from, taken_first, taken_off, entries, estimates_from, estimates}
use Rattle.powers.proofs.entry.Goals as goal

is : TABLE ≡ estimates
unfolding estimates estimates_from entries taken_first taken_off product_from falling_from
is = rw table_is

pub returns : goal.returns
returns c = (c.widened.ensures.0 ∙ ap (λ (xs : List ℕ). get_or xs c.args.i 0) is, c.widened.ensures.1)
