-- `says_one` meets its contract. Assumes nothing.
use Rattle.rules.specs.Block.{says_one}
use Rattle.block.proofs.Tests.{silent_test}
use Rattle.block.proofs.says_one.Goals as goal

pub returns-in-A : goal.returns-in-A
unfolding says_one
returns-in-A c is e = rw (c.in-A.is, silent_test is e)

pub returns-in-K : goal.returns-in-K
unfolding says_one
returns-in-K c is e = rw c.in-K.is
