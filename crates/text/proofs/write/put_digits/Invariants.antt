-- `text::write::put_digits` meets its contract. The invariant of its loop: with the digits left written, the buffer is what it is to be.
-- Assumes nothing.
use mathlib.Core.Path.{◌≡◌}
use Rattle.text.specs.Put.{put}
use Rattle.text.specs.Digits.{digits_of}
use Rattle.text.proofs.write.put_digits.Given as goal

abbrev pub invariant-loop-i : goal.invariant-loop-i
invariant-loop-i l = put l.initial.out l.at (digits_of l.base l.k l.n) ≡ put l.out l.at (digits_of l.base l.i l.left)
