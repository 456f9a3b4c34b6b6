-- `runs::target_from` meets its contract. Assumes nothing.
use Rattle.rules.specs.Walk.{from_start}
use Rattle.runs.proofs.target_from.Goals as goal

pub returns-then-time-start_time : goal.returns-then-time-start_time
unfolding from_start
returns-then-time-start_time c = rw c.if-time-start_time.true

pub returns-else-time-start_time : goal.returns-else-time-start_time
unfolding from_start
returns-else-time-start_time c = rw c.if-time-start_time.false c.compute_set_target_sample.ensures
