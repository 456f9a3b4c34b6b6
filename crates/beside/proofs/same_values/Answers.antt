-- `beside::same_values` meets its contract. Assumes nothing.
use Rattle.beside.proofs.Places.{none_exactly}
use Rattle.beside.proofs.same_values.Goals as goal

pub returns : goal.returns
returns c = none_exactly _ _ c.first_difference.ensures c.is_none.ensures
