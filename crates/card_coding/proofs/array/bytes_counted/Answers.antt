-- `array::bytes_counted` meets its contract. Assumes nothing.
use native.Mathlib.Numerals.{add-one}
use Rattle.card_coding.proofs.array.bytes_counted.Goals as goal

pub returns-then-ranged : goal.returns-then-ranged
returns-then-ranged c = rw (c.if-ranged.true, add-one)

pub returns-else-ranged : goal.returns-else-ranged
returns-else-ranged c = rw c.if-ranged.false
