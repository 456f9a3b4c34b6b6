-- `compute_set_value_automation` meets its contract: it stops, or is consumed. Assumes nothing.
use Rattle.automation.proofs.Bodies.{ready_room, filled_at, Stepped, step_stops, step_goes}
use Rattle.automation.proofs.compute_set_value_automation.Goals as goal
use Rattle.automation.proofs.compute_set_value_automation.Goals.{After-with_filled-w, Start}

-- ---- behind the fill, at k

module _ (k : After-with_filled-w) where
  abbrev start : Start
  start = k.before.before.before.before.before.before.before.before.before

  steps : Stepped
      start.args.infos
      start.args.walk
      start.args.buffer.now
      start.args.value
      start.args.time
      k.step_time-end_time.result
      k.with_filled-w.result
      k.fill_value-filled.new.buffer
  steps =
      record {
        n = k.fill_value-filled.result;
        end_is = k.step_time-end_time.ensures;
        filled = filled_at k.end_place_of-end_index.ensures k.fill_value-filled.ensures;
        walk_is = k.with_filled-w.ensures;
      }

pub fill_value-filled-requires : goal.fill_value-filled-requires
fill_value-filled-requires c =
    ready_room c.requires c.step_time-end_time.result c.end_place_of-end_index.ensures

pub returns-then-end_time-infos : goal.returns-then-end_time-infos
returns-then-end_time-infos c = rw c.stop.ensures (step_stops (steps (goal.at.returns-then-end_time-infos c).After-with_filled-w) c.if-end_time-infos.true)

pub consume-requires : goal.consume-requires
consume-requires c = rw c.with_filled-w.ensures (start (goal.at.consume-requires c).After-with_filled-w).requires.finished

pub returns : goal.returns
returns c = rw c.consume.ensures (step_goes (steps (goal.at.returns c).After-with_filled-w) c.if-end_time-infos.false)
