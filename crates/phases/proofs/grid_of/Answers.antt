-- `phases::grid_of` meets its contract. Assumes nothing.
use Rattle.rounding_laws.proofs.Decode.{finite_no_nan}
use Rattle.phases.proofs.grid_of.Goals as goal

pub float_to_bits-b : goal.float_to_bits-b
float_to_bits-b c = finite_no_nan c.args.a c.requires
