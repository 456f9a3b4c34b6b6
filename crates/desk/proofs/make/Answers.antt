-- `desk::make` meets its contract: what the constructor ensures, and the store cleared. Assumes nothing.
use Rattle.desk.proofs.Turns.{made-spoken}
use Rattle.desk.proofs.make.Goals as goal

pub returns : goal.returns
returns c =
    made-spoken _ _ _ _ _ _ _ _ _ _ c.requires.0 c.clear.ensures c.with_edition-r.ensures
    (rw c.none.ensures at c.told.ensures)
