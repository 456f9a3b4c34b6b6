-- `field::length_in` meets its contract: two bytes' number is below 65,536. Assumes nothing.
use native.Mathlib.Omega.{arith}
use Rattle.words.proofs.Bytes.{are_bytes, word_at_small}
use Rattle.card.specs.Card.{length_in}
use Rattle.card_reader.proofs.field.length_in.Goals as goal

pub returns : goal.returns
unfolding length_in
returns c =
    let bytes = c.args.bytes.now in
    (c.word_at.ensures, omega (arith, c.word_at.ensures, word_at_small 2 bytes 1 (are_bytes bytes (λ i. (c.shared_slice_known-1.given i).fits))))
