-- `play::serve` meets its contract: each turn leaves what can go on. Assumes nothing.
use Rattle.std.proofs.Common.{zero-le}
use Rattle.play.proofs.serve.Goals as goal

pub turns-init : goal.turns-init
turns-init c = record { desk = c.at_first.ensures.1; lines = record { ordered = zero-le; inside = zero-le }; at = zero-le; lent = c.requires }
