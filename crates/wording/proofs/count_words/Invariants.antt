-- `wording::count_words` meets its contract. The invariant of its loop: the words passed and those left are the words. Assumes nothing.
use mathlib.Core.Path.{◌≡◌}
use Prim.Native.Nat.{◌+◌, ◌-◌, ◌≤◌}
use lib.ListN.{length}
use Rattle.wording.specs.Plain.{words_at}
use Rattle.wording.proofs.count_words.Given as goal

abbrev pub invariant-loop-word : goal.invariant-loop-word
invariant-loop-word l = (l.next ≤ length l.line) × (l.n ≤ l.next) × (length (words_at l.line l.at) ≡ l.n + length (words_at l.line l.next))

abbrev pub decreases-loop-word : goal.decreases-loop-word
decreases-loop-word l = length l.line - l.next
