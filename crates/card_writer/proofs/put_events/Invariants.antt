-- `put_events` meets its contract. The invariant of its loop: with the events left written behind, all are. Assumes nothing.
use mathlib.Core.Path.{◌≡◌}
use Prim.Native.Nat.{◌+◌, ◌≤◌}
use lib.ListN.{length, take, drop}
use Rattle.rules.specs.Queue.{lengths_of, attached}
use Rattle.timeline.specs.Timeline.{waiting}
use Rattle.card.specs.Card.{fields_of}
use Rattle.card_writer.proofs.Parts.{Leaves}
use Rattle.card_writer.proofs.put_events.Given as goal

abbrev pub invariant-loop-i : goal.invariant-loop-i
invariant-loop-i l =
    (l.i ≤ l.i-end) × (l.from ≡ lengths_of (take l.i (waiting l.q))) × (length l.out ≡ length l.initial.out)
    × (l.next + length (fields_of (drop l.i (attached (waiting l.q) l.store))) ≡ l.at + length (fields_of (attached (waiting l.q) l.store)))
    × Leaves l.initial.out l.at (fields_of (attached (waiting l.q) l.store)) l.out l.next (fields_of (drop l.i (attached (waiting l.q) l.store)))
