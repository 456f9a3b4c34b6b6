-- `Walk::turned_to_step` meets its contract. Assumes nothing.
use native.Mathlib.Omega.{arith}
use Rattle.automation.proofs.Walk.turned_to_step.Goals as goal

pub overflow_add-result : goal.overflow_add-result
overflow_add-result c = rw c.counted-w.ensures (record { fits = omega (arith, c.requires.1) })

pub returns : goal.returns
returns c = rw c.counted-w.ensures
