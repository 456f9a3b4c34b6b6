-- `decimal::read::lowered` meets its contract: where too many tens are left over, no number is read. Assumes nothing.
use Rattle.std.proofs.Common.{sym, arith}
use Rattle.decimal.proofs.Scaling.{too_low}
use Rattle.decimal.proofs.read.lowered.Goals as goal

pub returns-then-n-gt22 : goal.returns-then-n-gt22
returns-then-n-gt22 c = sym (too_low _ _ 0 _ (omega arith))

pub returns-then-n-places : goal.returns-then-n-places
returns-then-n-places c = sym (too_low _ _ 0 _ (omega arith))
