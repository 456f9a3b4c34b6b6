-- `floats::magnitude` meets its contract. Assumes nothing.
use mathlib.Core.Path.{◌∙◌}
use Rattle.floats.proofs.Compared.{magnitude_is}
use Rattle.floats.proofs.magnitude.Goals as goal

pub returns : goal.returns
returns c = c.abs.ensures.value ∙ magnitude_is c.args.x
