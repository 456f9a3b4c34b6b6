-- `sound::is_number` meets its contract. Assumes nothing.
use mathlib.Core.Path.{sym}
use Rattle.laws.proofs.Order.{number_is}
use Rattle.refusals.proofs.sound.is_number.Goals as goal

pub returns : goal.returns
returns c = sym (number_is c.args.t)
