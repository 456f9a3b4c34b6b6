-- `fill_exponential_ramp` meets its contract: a ramp of no length fills with one value; else the run is lent the places to fill. Assumes nothing.
use mathlib.Core.Path.{sym, ap, ◌∙◌}
use Prim.Native.Nat.{◌-◌}
use lib.ListN.{length}
use lib.IntN.{ℤ}
use mir.Facts.{to_z-of_z}
use borrow.Rule.Slice.PartMut.{mid_of}
use Rattle.rules.specs.Numbers.{run}
use Rattle.laws.proofs.Ramps.{ramp_ended, ramp_along}
use Rattle.samples.specs.At.{exponential_at}
use Rattle.fills.proofs.Along.{none, upward, lent}
use Rattle.fills.proofs.fill_exponential_ramp.Goals as goal

pub returns-then-writes_none : goal.returns-then-writes_none
returns-then-writes_none c = none c.args.infos c.requires c.writes_none.ensures c.if-writes_none.true

pub returns-then-has_no_length : goal.returns-then-has_no_length
returns-then-has_no_length c =
    let a = c.args in
    rw (ramp_ended a.value a.duration _ (sym c.has_no_length.ensures ∙ c.if-has_no_length.true)) c.fill_value.ensures

pub slice_bounds-compute_exponential_ramp_samples-count : goal.slice_bounds-compute_exponential_ramp_samples-count
slice_bounds-compute_exponential_ramp_samples-count c = upward c.args.infos c.requires c.writes_none.ensures c.if-writes_none.false

pub slice_bounds-compute_exponential_ramp_samples-start : goal.slice_bounds-compute_exponential_ramp_samples-start
slice_bounds-compute_exponential_ramp_samples-start c = upward c.args.infos c.requires c.writes_none.ensures c.if-writes_none.false

pub returns : goal.returns
returns c =
    rw (ramp_along c.args.value c.args.duration _ (sym c.has_no_length.ensures ∙ c.if-has_no_length.false))
    (lent c.args.infos c.requires c.writes_none.ensures c.if-writes_none.false c.time_at-time.ensures
    (c.compute_exponential_ramp_samples.ensures
    ∙ ap (λ (l : ℤ). run (exponential_at c.args.from.time c.args.duration c.args.from.value l) c.args.infos.dt (length (mid_of c.args.filled (c.args.to - c.args.filled) c.args.buffer.now)) c.time_at-time.result)
    (to_z-of_z c.ranges.log)))
