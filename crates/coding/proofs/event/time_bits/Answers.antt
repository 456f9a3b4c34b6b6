-- `time_bits` meets its contract. Assumes nothing.
use Rattle.coding.proofs.Words.{missing_bits, time_bits}
use Rattle.coding.proofs.event.time_bits.Goals as goal

pub returns-in-None : goal.returns-in-None
returns-in-None c = rw c.in-None.is missing_bits

pub returns-in-Some : goal.returns-in-Some
returns-in-Some c = rw c.in-Some.is (time_bits c.bits.ensures)
