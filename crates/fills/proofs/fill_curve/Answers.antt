-- `fill_curve` meets its contract: the run is lent the places to fill. Assumes nothing.
use Rattle.fills.proofs.Along.{none, upward, lent}
use Rattle.fills.proofs.fill_curve.Goals as goal

pub returns-then-writes_none : goal.returns-then-writes_none
returns-then-writes_none c = none c.args.infos c.requires.0 c.writes_none.ensures c.if-writes_none.true

pub slice_bounds-compute_set_value_curve_samples-count : goal.slice_bounds-compute_set_value_curve_samples-count
slice_bounds-compute_set_value_curve_samples-count c = upward c.args.infos c.requires.0 c.writes_none.ensures c.if-writes_none.false

pub slice_bounds-compute_set_value_curve_samples-start : goal.slice_bounds-compute_set_value_curve_samples-start
slice_bounds-compute_set_value_curve_samples-start c = upward c.args.infos c.requires.0 c.writes_none.ensures c.if-writes_none.false

pub returns : goal.returns
returns c =
    lent c.args.infos c.requires.0 c.writes_none.ensures c.if-writes_none.false c.time_at-time.ensures c.compute_set_value_curve_samples.ensures
