-- `decimal::read::ten_to` meets its contract. The invariant of its loop: the power is exact. Assumes nothing.
use Rattle.std.proofs.Common.{◌≡◌, ◌^◌, pos}
use lib.Ieee.{binary64, of_int}
use Rattle.decimal.proofs.read.ten_to.Given as goal

abbrev pub invariant-loop-i : goal.invariant-loop-i
invariant-loop-i l = l.power ≡ of_int binary64 (pos (10 ^ l._i))
