-- `replies::put_fields` meets its contract. The invariant of its loop: what is written, in front of the fields left, are all of them. Assumes nothing.
use Rattle.std.proofs.Common.{◌≡◌, List, ℕ, ◌++◌, ◌+◌, ◌*◌, ◌≤◌, length}
use Rattle.text.specs.Put.{Put}
use Rattle.replies.specs.Plain.{parts, plain_fields}
use Rattle.replies.proofs.put_fields.Given as goal

abbrev pub invariant-loop-len : goal.invariant-loop-len
invariant-loop-len l =
    (length l.out ≡ length l.initial.out) × (l.to + 4 * length l.rest ≤ l.at + 4 * length l.line)
    × ((t : List ℕ) × (plain_fields (parts l.line) ≡ t ++ plain_fields (parts l.rest)) × Put l.initial.out l.at t l.out l.to)

abbrev pub decreases-loop-len : goal.decreases-loop-len
decreases-loop-len l = length l.rest
