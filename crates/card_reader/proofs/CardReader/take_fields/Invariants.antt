-- `CardReader::take_fields` meets its contract. The invariant of its loop: what is left, read by the reader so far, gives what all gives. Assumes nothing.
use mathlib.Core.Path.{◌≡◌}
use Prim.Native.Nat.{◌-◌, ◌≤◌}
use lib.ListN.{length, drop}
use Rattle.card.specs.Card.{taken}
use Rattle.card_reader.specs.Reader.{reader_of, SoundReader}
use Rattle.card_reader.proofs.CardReader.take_fields.Given as goal

abbrev pub invariant-loop-numbers : goal.invariant-loop-numbers
invariant-loop-numbers l =
    (l.used ≤ length l.bytes) × SoundReader l.reader l.numbers
    × (taken (length l.bytes) l.bytes (reader_of l.initial.reader l.initial.numbers) ≡ taken (length (drop l.used l.bytes)) (drop l.used l.bytes) (reader_of l.reader l.numbers))

abbrev pub decreases-loop-numbers : goal.decreases-loop-numbers
decreases-loop-numbers l = length l.bytes - l.used
