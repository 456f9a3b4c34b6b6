-- `answers::put_list` meets its contract. The invariant of its loop: with the numbers left written behind, all are written. Assumes nothing.
use mathlib.Core.List.{List}
use Prim.Native.Nat.{ℕ, ◌+◌, ◌-◌, ◌*◌, ◌≤◌}
use lib.ListN.{length, drop}
use Rattle.text.specs.Put.{Put}
use Rattle.answers.specs.Answers.{list_text}
use Rattle.answers.proofs.put_list.Given as goal

abbrev pub invariant-loop-x : goal.invariant-loop-x
invariant-loop-x l =
    (l.next + 9 * (length l.xs - l.x-index) ≤ length l.initial.out)
    × ((F : List ℕ) (r : ℕ) → Put l.out l.next (list_text l.before l.mark (drop l.x-index l.xs)) F r → Put l.initial.out l.at (list_text l.first l.mark l.xs) F r)
