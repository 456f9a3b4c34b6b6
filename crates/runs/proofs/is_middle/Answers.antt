-- `runs::is_middle` meets its contract. Assumes nothing.
use Rattle.rounding_laws.proofs.Decode.{finite_no_nan}
use Rattle.runs.proofs.is_middle.Goals as goal

pub float_to_bits-m : goal.float_to_bits-m
float_to_bits-m c = finite_no_nan _ c.requires

pub returns-then-m-le4877398396442247168 : goal.returns-then-m-le4877398396442247168
returns-then-m-le4877398396442247168 c = λ t. record { fine = c.requires; low = c.if-m-ge4336966441157787648.true; high = c.if-m-le4877398396442247168.true }
