-- `mixed_value` meets its contract, branch by branch. Assumes nothing.
use lib.Ieee as Ieee
use lib.Ieee.{binary32}
use Rattle.rules.specs.Mix.{mixed, settled, clamped}
use Rattle.mix.proofs.Writes.{nan_test}
use Rattle.mix.proofs.mixed_value.Goals as goal

pub returns-then-x : goal.returns-then-x
unfolding mixed settled clamped
returns-then-x c = let a = c.args in rw (nan_test (Ieee.add binary32 a.input a.value), c.if-x.true)

pub returns-then-x-bounds : goal.returns-then-x-bounds
unfolding mixed settled clamped
returns-then-x-bounds c = let a = c.args in rw (nan_test (Ieee.add binary32 a.input a.value), c.if-x.false, c.if-x-bounds.true)

pub returns-then-bounds-x : goal.returns-then-bounds-x
unfolding mixed settled clamped
returns-then-bounds-x c = let a = c.args in rw (nan_test (Ieee.add binary32 a.input a.value), c.if-x.false, c.if-x-bounds.false, c.if-bounds-x.true)

pub returns-else-bounds-x : goal.returns-else-bounds-x
unfolding mixed settled clamped
returns-else-bounds-x c = let a = c.args in rw (nan_test (Ieee.add binary32 a.input a.value), c.if-x.false, c.if-x-bounds.false, c.if-bounds-x.false)
