-- `target_value` meets its contract. Assumes nothing.
use Rattle.rules.specs.Walk.{from_start}
use Rattle.fills.proofs.target_value.Goals as goal

pub returns-then-time-start : goal.returns-then-time-start
unfolding from_start
returns-then-time-start c = rw c.if-time-start.true

pub returns : goal.returns
unfolding from_start
returns c = rw c.if-time-start.false c.compute_set_target_sample.ensures
