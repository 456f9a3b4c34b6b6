-- `runs::compute_exponential_ramp_samples` meets its contract. Assumes nothing.
use Rattle.std.proofs.Common.{◌≡◌, true, T, length, sym, ap, ◌∙◌, subst, to_z-of_z}
use lib.Ieee.{Float, binary64, of_int}
use Rattle.rules.specs.Numbers.{is_finite, run}
use Rattle.floats.proofs.Compared.{finite_of, finite_held}
use Rattle.samples.specs.At.{exponential_at, exponential_over}
use Rattle.samples.proofs.Once.{exponential_over_lem}
use Rattle.runs.proofs.compute_exponential_ramp_samples.Goals as goal
use Rattle.runs.proofs.compute_exponential_ramp_samples.Goals.{After-nearest_i64_to_f64-l, Start, Then-is_finite}

-- with L as an f64, and as the whole number
module _ (c : After-nearest_i64_to_f64-l) where
  abbrev s : Start
  s = c.before.before.before

  overs : run (exponential_over s.args.start_time s.args.duration s.args.start_value c.nearest_i64_to_f64-l.result) s.args.dt (length s.args.out.now) s.args.time
      ≡ run (exponential_at s.args.start_time s.args.duration s.args.start_value s.args.log) s.args.dt (length s.args.out.now) s.args.time
  overs =
      ap (λ (x : Float). run (exponential_over s.args.start_time s.args.duration s.args.start_value x) s.args.dt (length s.args.out.now) s.args.time)
      (c.nearest_i64_to_f64-l.ensures ∙ ap (of_int binary64) (to_z-of_z s.ranges.log))
      ∙ rw (exponential_over_lem s.args.start_time s.args.duration s.args.start_value s.args.log)

fine : (t : Then-is_finite) → is_finite t.args.start_value ≡ true
fine t = sym t.is_finite.ensures ∙ t.if-is_finite.true

pub float_to_float-from : goal.float_to_float-from
float_to_float-from c = finite_held _ (subst T (sym c.well_formed.1.1.1.0.1) tt) (fine (goal.at.float_to_float-from c).Then-is_finite)

pub exponential_parts-requires : goal.exponential_parts-requires
exponential_parts-requires c = finite_of _ (fine (goal.at.exponential_parts-requires c).Then-is_finite)

pub returns-then-is_finite : goal.returns-then-is_finite
returns-then-is_finite c = c.exponential_parts.ensures ∙ overs (goal.at.returns-then-is_finite c).After-nearest_i64_to_f64-l

pub returns : goal.returns
returns c = c.exponential_run.ensures ∙ overs (goal.at.returns c).After-nearest_i64_to_f64-l
