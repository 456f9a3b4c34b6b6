-- `put_word` meets its contract. The invariant of its loop: with the rest of the word written behind, the buffer is what it is to be.
-- Assumes nothing.
use mathlib.Core.Path.{◌≡◌}
use Prim.Native.Nat.{◌+◌, ◌-◌, ◌≤◌}
use lib.ListN.{length, drop}
use Rattle.text.specs.Put.{put}
use Rattle.card_reader.proofs.put_word.Given as goal

abbrev pub invariant-loop-i : goal.invariant-loop-i
invariant-loop-i l = (l.i ≤ length l.word) × (length l.out ≡ length l.initial.out) × (put l.initial.out l.at l.word ≡ put l.out (l.at + l.i) (drop l.i l.word))

abbrev pub decreases-loop-i : goal.decreases-loop-i
decreases-loop-i l = length l.word - l.i
