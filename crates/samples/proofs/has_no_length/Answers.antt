-- `has_no_length` meets its contract. Assumes nothing.
use Rattle.std.proofs.Common.{refl}
use lib.Ieee.{of_bits}
use Rattle.rules.specs.Samples.{has_no_length}
use Rattle.samples.proofs.has_no_length.Goals as goal

pub returns : goal.returns
unfolding has_no_length of_bits
returns c = refl
