-- `calls::next_numbers` meets its contract. The invariant of its loop: the numbers read so far, before those that are left, are the numbers.
-- Assumes nothing.
use mathlib.Core.Path.{◌≡◌}
use Prim.Native.Nat.{◌-◌}
use lib.ListN.{take}
use Rattle.text.specs.Words.{words_from}
use Rattle.calls.specs.Language.{singles}
use Rattle.calls.proofs.Numbers.{behind}
use Rattle.calls.proofs.next_numbers.Given as goal

abbrev pub invariant-loop-i : goal.invariant-loop-i
invariant-loop-i l = singles l.count (words_from l.line l.at) ≡ behind (take l.i l.numbers) (singles (l.count - l.i) (words_from l.line l.from))
