-- `put_numbers` meets its contract. The invariant of its loop: with the numbers left written behind, all are. Assumes nothing.
use mathlib.Core.Path.{◌≡◌}
use Prim.Native.Nat.{◌+◌, ◌*◌, ◌≤◌}
use lib.ListN.{length, drop}
use Rattle.words.specs.Words.{numbers_bytes}
use Rattle.card_writer.proofs.Parts.{Leaves}
use Rattle.card_writer.proofs.put_numbers.Given as goal

abbrev pub invariant-loop-i : goal.invariant-loop-i
invariant-loop-i l =
    (l.i ≤ length l.numbers) × (length l.out ≡ length l.initial.out) × (l.next ≡ l.at + 4 * l.i) × Leaves l.initial.out l.at (numbers_bytes l.numbers) l.out l.next (numbers_bytes (drop l.i l.numbers))
