-- `is_count` meets its contract. Assumes nothing.
use mathlib.Core.Path.{refl}
use Rattle.rules.specs.Refusals.{is_count}
use Rattle.refusals.proofs.block.is_count.Goals as goal

pub returns : goal.returns
unfolding is_count
returns c = refl
