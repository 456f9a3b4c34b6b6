-- `CardReader::take` meets its contract. The invariant of its loop: the part up to `from` is read. Assumes nothing.
use mathlib.Core.Path.{◌≡◌}
use Prim.Native.Nat.{◌-◌, ◌≤◌}
use lib.ListN.{length, take}
use Rattle.card.specs.Card.{fed}
use Rattle.card_reader.specs.Reader.{reading_of, SoundReader, SoundWindow}
use Rattle.card_reader.proofs.CardReader.take.Given as goal

abbrev pub invariant-loop-from : goal.invariant-loop-from
invariant-loop-from l =
    (l.from ≤ length l.part) × SoundReader l.reader l.numbers × SoundWindow l.reader l.window
    × (reading_of l.reader l.numbers l.window ≡ fed (reading_of l.initial.reader l.initial.numbers l.initial.window) (take l.from l.part))

abbrev pub decreases-loop-from : goal.decreases-loop-from
decreases-loop-from l = length l.part - l.from
