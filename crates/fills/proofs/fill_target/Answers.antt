-- `fill_target` meets its contract: the run is lent the places to fill. Assumes nothing.
use Rattle.rules.specs.Samples.{target_sample}
use Rattle.samples.specs.At.{target_at}
use Rattle.fills.proofs.Along.{none, upward, lent}
use Rattle.fills.proofs.fill_target.Goals as goal

pub returns-then-writes_none : goal.returns-then-writes_none
unfolding target_sample target_at
returns-then-writes_none c =
    (none c.args.infos c.requires c.writes_none.ensures c.if-writes_none.true, c.target_value-value.ensures)

pub slice_bounds-compute_set_target_samples-count : goal.slice_bounds-compute_set_target_samples-count
slice_bounds-compute_set_target_samples-count c = upward c.args.infos c.requires c.writes_none.ensures c.if-writes_none.false

pub slice_bounds-compute_set_target_samples-start : goal.slice_bounds-compute_set_target_samples-start
slice_bounds-compute_set_target_samples-start c = upward c.args.infos c.requires c.writes_none.ensures c.if-writes_none.false

pub returns : goal.returns
unfolding target_sample target_at
returns c =
    let r = c.compute_set_target_samples-value.ensures in
    (lent c.args.infos c.requires c.writes_none.ensures c.if-writes_none.false c.time_at-time.ensures r.0, r.1)
