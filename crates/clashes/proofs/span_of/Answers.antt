-- `clashes::span_of` meets its contract. Assumes nothing.
use Rattle.clashes.proofs.Clashing.{no_span}
use Rattle.clashes.proofs.span_of.Goals as goal

pub returns-in_default : goal.returns-in_default
returns-in_default c = no_span _ c.in_default.not-Curve
