-- `vector_line::number` meets its contract: the digits passed and those to come give the number. Assumes nothing.
use mathlib.Core.Path.{◌≡◌}
use Prim.Native.Nat.{◌+◌, ◌*◌, ◌-◌, ◌^◌, ◌<◌}
use Rattle.vector_line.specs.Line.{digits_from, number_at}
use Rattle.vector_line.proofs.number.Given as goal

abbrev pub invariant-loop-i : goal.invariant-loop-i
invariant-loop-i l = (l.v < 2 ^ (4 * l.i)) × (digits_from l.s (16 - l.i) (l.at + l.i) l.v ≡ number_at l.s l.at)
