-- `sound::is_from_zero` meets its contract: 1 / -0 is below 0. Assumes nothing.
use mathlib.Core.Path.{◌∙◌}
use lib.Ieee.{of_bits}
use Rattle.refusals.proofs.Times.{above_is, zero_is, neither_is}
use Rattle.refusals.proofs.sound.is_from_zero.Goals as goal

pub returns-then-t : goal.returns-then-t
unfolding of_bits
returns-then-t c = c.if-t.true ∙ above_is c.args.t c.if-t.true

pub returns-then-t-2 : goal.returns-then-t-2
unfolding of_bits
returns-then-t-2 c = zero_is c.args.t c.if-t-2.true

pub returns-else-t-2 : goal.returns-else-t-2
unfolding of_bits
returns-else-t-2 c = c.if-t-2.false ∙ neither_is c.args.t c.if-t.false c.if-t-2.false
