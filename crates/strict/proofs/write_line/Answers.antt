-- `strict::write_line` meets its contract: the translation lies in the buffer. Assumes nothing.
use mathlib.Core.Path.{sym}
use native.Mathlib.Nat.{le_trans, le_of_eq}
use lib.Seq.{length-take-le}
use Rattle.wording.proofs.Steps.{room_to}
use borrow.Author.Rules.{rules}
use Rattle.strict.proofs.write_line.Goals as goal

pub slice_bounds-write_all-end : goal.slice_bounds-write_all-end
slice_bounds-write_all-end c = le_trans (room_to _ _ c.in-Some.ensures.1) (le_of_eq (search rules))

pub slice_bounds-write_all-end-in-Some : goal.slice_bounds-write_all-end-in-Some
slice_bounds-write_all-end-in-Some c = sym (length-take-le _ _ (le_trans (room_to _ _ c.in-Some.ensures.1) (le_of_eq (search rules))))
