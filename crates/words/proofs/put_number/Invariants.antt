-- `words::put_number` meets its contract. The invariant of its loop: with the bytes left written, the buffer is what it is to be.
-- Assumes nothing.
use mathlib.Core.Path.{◌≡◌}
use Prim.Native.Nat.{◌+◌, ◌-◌}
use Rattle.text.specs.Put.{put}
use Rattle.words.specs.Words.{bytes_of}
use Rattle.words.proofs.put_number.Given as goal

abbrev pub invariant-loop-i : goal.invariant-loop-i
invariant-loop-i l = put l.initial.out l.at (bytes_of l.k l.n) ≡ put l.out (l.at + l.i) (bytes_of (l.k - l.i) l.left)
