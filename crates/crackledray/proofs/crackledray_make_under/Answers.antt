-- `crackledray_make_under` meets its contract. Assumes nothing.
use Rattle.crackledray.proofs.crackledray_make_under.Goals as goal

pub returns : goal.returns
returns c = rw c.rate_of.ensures at c.begin.ensures
