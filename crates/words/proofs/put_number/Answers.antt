-- `words::put_number` meets its contract. The invariant of its loop: with the bytes left written, the buffer is what it is to be.
-- Assumes nothing.
use mathlib.Core.Path.{sym, ◌∙◌}
use native.Mathlib.Nat.{add-zero, sub-zero}
use native.Mathlib.Omega.{arith}
use Rattle.words.proofs.Bytes.{length_bytes}
use Rattle.words.proofs.Turns.{put-turn, put-over}
use Rattle.words.proofs.put_number.Goals as goal

pub loop-i-init : goal.loop-i-init
loop-i-init c = rw (add-zero c.args.at, sub-zero c.args.k)

pub loop-i-preserved : goal.loop-i-preserved
loop-i-preserved c =
    let l = c.loop-i in
    l.invariant ∙ put-turn _ _ _ _ _ c.loop-i-test.true (omega (arith, c.requires, l.auto.out, c.loop-i-test.true))

pub returns : goal.returns
returns c =
    let l = c.loop-i in
    record { bytes = sym (l.invariant ∙ put-over _ _ _ _ _ c.loop-i-test.false); place = rw length_bytes }
