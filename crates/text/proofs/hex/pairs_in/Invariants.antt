-- `text::hex::pairs_in` meets its contract. The invariant of its loop: the word's bytes are those read, and those of the digits left behind them.
-- Assumes nothing.
use mathlib.Core.Path.{◌≡◌}
use Prim.Native.Nat.{◌*◌}
use lib.ListN.{take, drop}
use Rattle.text.specs.Hex.{pairs_in}
use Rattle.text.proofs.Pairs.{behind}
use Rattle.text.proofs.hex.pairs_in.Given as goal

abbrev pub invariant-loop-i : goal.invariant-loop-i
invariant-loop-i l = pairs_in l.word ≡ behind (take l.i l.bytes) (pairs_in (drop (2 * l.i) l.word))
