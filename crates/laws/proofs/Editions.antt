-- An edition's number is taken, and gives it back. Assumes nothing.
use mathlib.Core.Path.{◌≡◌, refl}
use mathlib.Core.Bool.{true}
use Rattle.rules.specs.declared.Edition.{Edition}
use Rattle.rules.specs.Refusals.{is_edition}
use Rattle.rules.specs.Block.{edition_of}
use Rattle.laws.specs.Editions.{number_of_edition}

pub edition_back : (e : Edition) → (edition_of (number_of_edition e) ≡ e) × (is_edition (number_of_edition e) ≡ true)
unfolding edition_of number_of_edition is_edition
edition_back Edition.First = (refl, refl)
edition_back Edition.Second = (refl, refl)
