-- `begin` meets its contract, by the rate. Assumes nothing.
use Rattle.automation.proofs.Heads.{begins_a, begins_k}
use Rattle.automation.proofs.begin.Goals as goal

pub returns-in-A : goal.returns-in-A
returns-in-A c = begins_a c.in-A.is

pub returns-in-K : goal.returns-in-K
returns-in-K c = begins_k c.requires c.in-K.is
