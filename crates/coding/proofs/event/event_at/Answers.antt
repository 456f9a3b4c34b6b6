-- `event_at` meets its contract. Assumes nothing.
use Rattle.coding.proofs.event.event_at.Goals as goal

pub returns : goal.returns
returns c = rw c.time_in-hold.ensures at c.event_of.ensures
