-- `field_length` meets its contract, kind by kind. Assumes nothing.
use native.Mathlib.Omega.{arith}
use Rattle.words.specs.Words.{bytes_of, single_bytes, double_bytes}
use Rattle.words.proofs.Bytes.{length-numbers}
use Rattle.card.specs.Card.{event_field}
use Rattle.card_writer.proofs.field_length.Goals as goal

pub returns-in-Curve : goal.returns-in-Curve
unfolding event_field single_bytes double_bytes bytes_of
returns-in-Curve c = rw c.in-Curve.is (omega (arith, length-numbers c.args.numbers.now))
