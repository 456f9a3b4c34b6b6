-- `crackledray_card_open` meets its contract. Assumes nothing.
use Rattle.crackledray.proofs.crackledray_card_open.Goals as goal

pub returns : goal.returns
returns c = rw c.rate_of.ensures at c.open.ensures
