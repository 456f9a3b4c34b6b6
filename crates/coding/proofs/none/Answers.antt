-- `none` meets its contract. Assumes nothing.
use mathlib.Core.Path.{refl}
use lib.Ieee as Ieee
use lib.Ieee.{of_bits}
use Rattle.rules.specs.Numbers.{is_finite}
use Rattle.rules.specs.Refusals.{all_finite, are_bounds}
use Rattle.coding.proofs.Read.{nothing-made}
use Rattle.coding.proofs.none.Goals as goal

pub returns : goal.returns
unfolding of_bits are_bounds all_finite is_finite Ieee.le Ieee.lt Ieee.eq
returns c = (nothing-made _ refl c.new.ensures, c.new.ensures.sound)
