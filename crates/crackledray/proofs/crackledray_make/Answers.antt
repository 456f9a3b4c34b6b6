-- `crackledray_make` meets its contract. Assumes nothing.
use Rattle.crackledray.proofs.crackledray_make.Goals as goal

pub returns : goal.returns
returns c = rw c.rate_of.ensures at c.begin.ensures
