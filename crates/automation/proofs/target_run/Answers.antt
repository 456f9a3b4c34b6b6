-- `target_run` meets its contract: it ends, snaps or stays. Assumes nothing.
use Rattle.rules.specs.Samples.{target_sample}
use Rattle.rules.specs.Walk.{from_start}
use Rattle.automation.proofs.Bodies.{ready_room, filled_at, Targeted, target_ends, target_leaves}
use Rattle.automation.proofs.target_run.Goals as goal
use Rattle.automation.proofs.target_run.Goals.{After-with_filled-w, Start}

-- ---- behind the fill, at k

module _ (k : After-with_filled-w) where
  abbrev start : Start
  start = k.before.before.before.before.before.before.before.before.before

  targets : Targeted
      start.args.infos
      start.args.walk
      start.args.buffer.now
      start.args.ended
      (from_start start.args.time start.args.walk.intrinsic (target_sample start.args.from start.args.value start.args.time start.args.constant))
      k.hold_or-end_time.result
      k.with_filled-w.result
      k.fill_target-faded.new.buffer
  targets =
      record {
        n = k.fill_target-faded.result.filled;
        end_is = k.hold_or-end_time.ensures;
        filled = filled_at k.end_place_of-end_index.ensures k.fill_target-faded.ensures.0;
        walk_is = k.with_filled-w.ensures;
      }

pub fill_target-faded-requires : goal.fill_target-faded-requires
fill_target-faded-requires c = ready_room c.requires c.hold_or-end_time.result c.end_place_of-end_index.ensures

pub target_left-requires : goal.target_left-requires
target_left-requires c = rw c.with_filled-w.ensures c.fill_target-faded.ensures.0.small

pub returns-in_default : goal.returns-in_default
returns-in_default c =
    let k = (goal.at.returns-in_default c).After-with_filled-w in
    target_leaves (targets k) c.fill_target-faded.ensures.1 c.in_default.is _ _ c.target_left.ensures

pub consume-requires : goal.consume-requires
consume-requires c = rw c.with_filled-w.ensures (start (goal.at.consume-requires c).After-with_filled-w).requires.finished

pub returns : goal.returns
returns c =
    let k = (goal.at.returns c).After-with_filled-w in
    rw c.consume.ensures (target_ends (targets k) c.fill_target-faded.ensures.1 c.in-Some.is _ _)
