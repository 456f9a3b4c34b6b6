-- `ended` meets its contract. Assumes nothing.
use native.Mathlib.Omega.{arith}
use borrow.Author.Tests.{le-leb, lt-leb}
use Rattle.plain.proofs.ended.Goals as goal

pub returns-then-look : goal.returns-then-look
returns-then-look c = rw (le-leb _ _ c.if-look.true)

pub returns-else-look : goal.returns-else-look
returns-else-look c = let l = c.args.stopped in rw (lt-leb l.filled l.place (omega (arith, c.if-look.false)))
