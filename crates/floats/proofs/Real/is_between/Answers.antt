-- `floats::Real::is_between` meets its contract, by a type's `widened` alone. Assumes nothing.
use mathlib.Core.Path.{ap, ◌∙◌}
use lib.Ieee.{of_bits}
use Rattle.rules.specs.Numbers.{is_finite}
use Rattle.floats.proofs.Compared.{between}
use Rattle.floats.proofs.Real.is_between.Goals as goal

pub returns : goal.returns
unfolding of_bits
returns g c = between c.widened-y.result ∙ ap is_finite c.widened-y.ensures
