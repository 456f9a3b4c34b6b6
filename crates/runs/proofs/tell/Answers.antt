-- `runs::tell` meets its contract. Assumes nothing.
use Rattle.std.proofs.Common.{◌<◌, length, inl, inr, arith}
use Rattle.runs.proofs.Telling.{one_told}
use Rattle.runs.proofs.tell.Goals.{else-u-gt234, then-u-gt234}
use Rattle.runs.proofs.tell.Goals as goal

pub loop-i-preserved : goal.loop-i-preserved
loop-i-preserved c =
    let l = c.loop-i in
    let u = c.near_of-u in
    let some : l.i < length l.us = omega (arith, l.auto, c.requires.as_many, c.loop-i-test.true) in
    let room : l.count < length l.slow = omega (arith, l.auto, c.requires.as_many, c.loop-i-test.true, l.invariant.fewer) in
    one_told 0 _ l.us l.slow l.count l.i l.invariant some room u.result c.if-u-gt234.count
    (elim c.if-u-gt234.branch [
      | then-u-gt234 w ↦ inr w.count-is
      | else-u-gt234 w ↦ inl (w.count-is, u.ensures (omega (arith, w.if-u-gt234.false)))
    ])
