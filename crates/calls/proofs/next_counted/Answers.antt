-- `calls::next_counted` meets its contract: as many numbers as were said. Assumes nothing.
use mathlib.Core.Path.{sym}
use native.Mathlib.Nat.{le_trans}
use Rattle.text.proofs.Splitting.{count_below}
use Rattle.calls.proofs.next_counted.Goals as goal

pub next_numbers-requires : goal.next_numbers-requires
next_numbers-requires c = le_trans (count_below c.args.most _ (sym c.in_ok-value.ensures)) c.requires
