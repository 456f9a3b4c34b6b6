-- `words::real_at` meets its contract: a word of four bytes, or two in one of eight, read as a float. Assumes nothing.
use mathlib.Core.Path.{◌∙◌}
use Prim.Native.Nat.{◌+◌, ◌^◌, ◌<◌}
use native.Mathlib.Omega.{arith}
use Rattle.words.proofs.Bytes.{are_bytes, word_at_small}
use Rattle.words.proofs.Turns.{single_word, double_word}
use Rattle.words.proofs.real_at.Given.{Over}
use Rattle.words.proofs.real_at.Goals as goal
use Rattle.words.proofs.real_at.Goals.{After-four_at}

-- each of the two is a number of 32 bits
small : (g : Over) (c : After-four_at g) → (c.four_at-low.result < 2 ^ 32) × (c.four_at.result < 2 ^ 32)
small g c =
    let a = c.args in
    let bytes = are_bytes a.bytes.now (λ i. (c.shared_slice_known-1.given i).fits) in
    (rw c.four_at-low.ensures (word_at_small 4 a.bytes.now a.at bytes), rw c.four_at.ensures (word_at_small 4 a.bytes.now (a.at + 4) bytes))

pub overflow_mul-four_at : goal.overflow_mul-four_at
overflow_mul-four_at g c = omega (arith, small g c)

pub overflow_add-low : goal.overflow_add-low
overflow_add-low g c = omega (arith, small g c)

pub returns-then-DIGITS-eq16 : goal.returns-then-DIGITS-eq16
returns-then-DIGITS-eq16 g c =
    let a = c.args in
    c.of_bits.ensures ∙ double_word g.T.Real.format a.bytes.now a.at (c.DIGITS.ensures ∙ g.met.T.Real.digits_is) c.if-DIGITS-eq16.true c.requires c.four_at-low.ensures c.four_at.ensures

pub returns-else-DIGITS-eq16 : goal.returns-else-DIGITS-eq16
returns-else-DIGITS-eq16 g c =
    c.of_bits-else-DIGITS-eq16.ensures ∙ single_word g.T.Real.format c.args.bytes.now c.args.at (c.DIGITS.ensures ∙ g.met.T.Real.digits_is) c.if-DIGITS-eq16.false c.four_at-low.ensures
