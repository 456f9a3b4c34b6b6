-- `is_crossed` meets its contract. Assumes nothing.
use Rattle.rules.specs.Refusals.{is_crossed}
use Rattle.param.proofs.AudioParam.is_crossed.Goals as goal

pub returns : goal.returns
unfolding is_crossed
returns c = rw (c.any_covers.ensures, c.any_inside.ensures, c.curve_end-end.ensures)
