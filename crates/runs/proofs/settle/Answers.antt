-- `runs::settle` meets its contract. Assumes nothing.
use Rattle.std.proofs.Common.{◌≡◌, length, refl, arith, get_or}
use Rattle.runs.proofs.Telling.{none_settled, one_settled}
use Rattle.runs.proofs.settle.Goals as goal

pub loop-i-init : goal.loop-i-init
loop-i-init g c = none_settled _ _ _

pub loop-i-preserved : goal.loop-i-preserved
loop-i-preserved g c =
    let l = c.loop-i in
    let i = get_or c.args.slow.now l.i-index 0 in
    one_settled _ _ _ l.invariant i refl (omega (arith, l.auto.out, c.requires.listed l.i-index c.loop-i-test.true)) c.f.result c.f.ensures

pub returns : goal.returns
returns g c =
    let l = c.loop-i in
    let e : l.i-index ≡ length c.args.slow.now = omega (arith, l.auto, c.loop-i-test) in
    rw (← e) l.invariant
