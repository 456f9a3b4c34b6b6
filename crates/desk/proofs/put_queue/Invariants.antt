-- `desk::put_queue` meets its contract. The invariant of its loop: with the events left written behind, all are written. Assumes nothing.
use mathlib.Core.Path.{◌≡◌}
use mathlib.Core.List.{List}
use Prim.Native.Nat.{ℕ, ◌+◌, ◌-◌, ◌*◌, ◌≤◌}
use lib.ListN.{length, take, drop}
use Rattle.rules.specs.Queue.{lengths_of}
use Rattle.param.specs.Param.{param_of}
use Rattle.text.specs.Put.{Put}
use Rattle.desk.specs.Desk.{queue_text}
use Rattle.desk.proofs.put_queue.Given as goal

abbrev pub invariant-loop-i : goal.invariant-loop-i
invariant-loop-i l =
    (l.i ≤ length (param_of l.p).queue) × (length l.out ≡ length l.initial.out) × (l.next + (78 * (length (param_of l.p).queue - l.i) + 9 * lengths_of (drop l.i (param_of l.p).queue)) ≤ l.at + 41856)
    × ((F : List ℕ) (r : ℕ) → Put l.out l.next (queue_text (drop l.i (param_of l.p).queue) (drop (lengths_of (take l.i (param_of l.p).queue)) l.store)) F r → Put l.initial.out l.at (queue_text (param_of l.p).queue l.store) F r)
