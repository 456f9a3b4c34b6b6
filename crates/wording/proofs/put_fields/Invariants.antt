-- `wording::put_fields` meets its contract. The invariant of its loop: what is written, in front of the fields left, are the fields. Assumes nothing.
use mathlib.Core.Path.{◌≡◌}
use mathlib.Core.List.{List}
use Prim.Native.Nat.{ℕ, ◌+◌, ◌-◌, ◌*◌, ◌≤◌}
use lib.ListN.{length}
use Rattle.text.specs.Put.{Put}
use Rattle.wording.specs.Plain.{words_at, in_front, fields}
use Rattle.wording.proofs.put_fields.Given as goal

abbrev pub invariant-loop-i : goal.invariant-loop-i
invariant-loop-i l =
    (l.next ≤ length l.line) × (length l.out ≡ length l.initial.out) × (l.to + 17 * (length l.line - l.next) ≤ l.at + 17 * (length l.line - l.from))
    × ((t : List ℕ) × (fields l.kind l.n (words_at l.line l.from) ≡ in_front t (fields l.kind (l.n - l._i) (words_at l.line l.next))) × Put l.initial.out l.at t l.out l.to)
