-- `words::word_at` meets its contract. The invariant of its loop: the number of the bytes taken so far, which are those behind the place i. Assumes nothing.
use mathlib.Core.Path.{◌≡◌}
use Prim.Native.Nat.{◌+◌, ◌-◌}
use Rattle.words.specs.Words.{word_at}
use Rattle.words.proofs.word_at.Given as goal

abbrev pub invariant-loop-i : goal.invariant-loop-i
invariant-loop-i l = l.v ≡ word_at (l.k - l.i) l.bytes (l.at + l.i)
