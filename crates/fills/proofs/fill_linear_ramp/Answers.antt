-- `fill_linear_ramp` meets its contract: a ramp of no length fills with one value; else the run is lent the places to fill. Assumes nothing.
use mathlib.Core.Path.{sym, ◌∙◌}
use Rattle.laws.proofs.Ramps.{linear_ended}
use Rattle.samples.proofs.Once.{linear_along}
use Rattle.fills.proofs.Along.{none, upward, lent}
use Rattle.fills.proofs.fill_linear_ramp.Goals as goal

pub returns-then-writes_none : goal.returns-then-writes_none
returns-then-writes_none c = none c.args.infos c.requires c.writes_none.ensures c.if-writes_none.true

pub returns-then-has_no_length : goal.returns-then-has_no_length
returns-then-has_no_length c =
    let a = c.args in
    rw (linear_ended a.from a.value a.duration (sym c.has_no_length.ensures ∙ c.if-has_no_length.true)) c.fill_value.ensures

pub slice_bounds-compute_linear_ramp_samples-count : goal.slice_bounds-compute_linear_ramp_samples-count
slice_bounds-compute_linear_ramp_samples-count c = upward c.args.infos c.requires c.writes_none.ensures c.if-writes_none.false

pub slice_bounds-compute_linear_ramp_samples-start : goal.slice_bounds-compute_linear_ramp_samples-start
slice_bounds-compute_linear_ramp_samples-start c = upward c.args.infos c.requires c.writes_none.ensures c.if-writes_none.false

pub returns : goal.returns
returns c =
    rw (linear_along c.args.from c.args.value c.args.duration (sym c.has_no_length.ensures ∙ c.if-has_no_length.false))
    (lent c.args.infos c.requires c.writes_none.ensures c.if-writes_none.false c.time_at-time.ensures c.compute_linear_ramp_samples.ensures)
