-- `is_edition` meets its contract. Assumes nothing.
use mathlib.Core.Path.{refl}
use Rattle.rules.specs.Refusals.{is_edition}
use Rattle.refusals.proofs.is_edition.Goals as goal

pub returns : goal.returns
unfolding is_edition
returns c = refl
