-- `put_numbers` meets its contract. The invariant of its loop: with the numbers left written behind, all are. Assumes nothing.
use mathlib.Core.Path.{refl}
use native.Mathlib.Omega.{arith}
use Rattle.words.specs.Words.{bytes_of, single_bytes}
use Rattle.card_writer.proofs.Parts.{leaves_fewer, leaves_none, numbers-next, numbers-over}
use Rattle.card_writer.proofs.put_numbers.Goals as goal

pub loop-i-init : goal.loop-i-init
loop-i-init c = (omega arith, refl, omega arith, λ after r q. q)

pub put_real-next-requires : goal.put_real-next-requires
put_real-next-requires c = omega arith

pub loop-i-preserved : goal.loop-i-preserved
unfolding single_bytes bytes_of
loop-i-preserved c =
    let l = c.loop-i in
    let put = c.put_real-next.ensures in
    (omega arith, omega arith, omega arith, leaves_fewer l.invariant.3 (numbers-next _ l.i _ c.loop-i-test.true) put (omega arith))

pub returns : goal.returns
returns c = leaves_none c.loop-i.invariant.3 (numbers-over _ _ c.loop-i-test.false)
