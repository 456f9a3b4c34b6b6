-- `text::hex::put_bytes` meets its contract. The invariant of its loop: with the bytes left written behind, all are written. Assumes nothing.
use mathlib.Core.List.{List}
use Prim.Native.Nat.{ℕ, ◌+◌, ◌-◌, ◌*◌, ◌≤◌}
use lib.ListN.{length, drop}
use Rattle.text.specs.Put.{Put}
use Rattle.text.specs.Hex.{bytes_text}
use Rattle.text.proofs.hex.put_bytes.Given as goal

abbrev pub invariant-loop-b : goal.invariant-loop-b
invariant-loop-b l =
    (l.next + 2 * (length l.bytes - l.b-index) ≤ length l.initial.out)
    × ((F : List ℕ) (r : ℕ) → Put l.out l.next (bytes_text (drop l.b-index l.bytes)) F r → Put l.initial.out l.at (bytes_text l.bytes) F r)
