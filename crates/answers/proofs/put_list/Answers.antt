-- `answers::put_list` meets its contract. The invariant of its loop: with the numbers left written behind, all are written. Assumes nothing.
use native.Mathlib.Omega.{arith}
use Rattle.answers.proofs.Lists.{next_number, no_number}
use Rattle.answers.proofs.put_list.Goals as goal

pub loop-x-preserved : goal.loop-x-preserved
loop-x-preserved c =
    let l = c.loop-x in
    (omega arith, λ F r p. l.invariant.1 F r (next_number _ _ _ _ c.loop-x-test.true c.put_real_behind-next.ensures.put (omega arith) p))

pub returns : goal.returns
returns c = c.loop-x.invariant.1 _ _ (no_number _ _ _ _ _ _ c.loop-x-test.false)
