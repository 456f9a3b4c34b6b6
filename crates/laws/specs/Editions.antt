-- The number that a parameter of an edition is made by (02, C-19).
use Rattle.std.specs.Prelude.{ℕ}
use Rattle.rules.specs.declared.Edition.{Edition}

unfoldable pub number_of_edition : Edition → ℕ
number_of_edition Edition.First = 1
number_of_edition Edition.Second = 2
