-- `field::read_singles` meets its contract. The invariant of its loop: the numbers read, with those left behind them, are all. Assumes nothing.
use mathlib.Core.Path.{◌≡◌}
use mathlib.Core.List.{◌++◌}
use Prim.Native.Nat.{◌≤◌}
use lib.ListN.{length, take}
use Rattle.words.specs.Words.{singles_at}
use Rattle.card_reader.proofs.Singles.{singles_from}
use Rattle.card_reader.proofs.field.read_singles.Given as goal

abbrev pub invariant-loop-i : goal.invariant-loop-i
invariant-loop-i l =
    (l.i ≤ length l.values) × (length l.values ≡ length l.initial.values) × (singles_at l.bytes l.at (length l.initial.values) ≡ take l.i l.values ++ singles_from l.bytes l.at (length l.initial.values) l.i)
