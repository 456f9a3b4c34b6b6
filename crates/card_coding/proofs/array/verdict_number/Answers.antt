-- `array::verdict_number` meets its contract. Assumes nothing.
use native.Mathlib.Omega.{arith}
use Rattle.card_coding.specs.Array.{verdict_number}
use Rattle.card_coding.proofs.array.verdict_number.Goals as goal

pub returns-in-Ok : goal.returns-in-Ok
unfolding verdict_number
returns-in-Ok c = record { is = rw c.in-Ok.is; small = omega arith }

pub returns-in-Err : goal.returns-in-Err
unfolding verdict_number
returns-in-Err c = record { is = rw c.in-Err.is c.number_of.ensures; small = omega arith }
