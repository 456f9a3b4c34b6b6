-- `text::hex::put_bytes` meets its contract. The invariant of its loop: with the bytes left written behind, all are written. Assumes nothing.
use native.Mathlib.Omega.{arith}
use lib.ListN.{get_or}
use Rattle.text.proofs.Writing.{length_digits}
use Rattle.text.proofs.Pairs.{next_byte, no_byte}
use Rattle.text.proofs.hex.put_bytes.Goals as goal

pub loop-b-preserved : goal.loop-b-preserved
loop-b-preserved c =
    let l = c.loop-b in
    let d = c.put_digits-next in
    let long = length_digits 16 2 (get_or c.args.bytes.now l.b-index 0) in (
      omega (arith, d.ensures.place, long),
      λ F r p. l.invariant.1 F r (next_byte _ _ _ c.loop-b-test.true d.ensures (omega (arith, d.ensures.place, long)) p),
    )

pub returns : goal.returns
returns c = c.loop-b.invariant.1 _ _ (no_byte _ _ _ _ c.loop-b-test.false)
