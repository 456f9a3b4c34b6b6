-- `runs::target_by` meets its contract. Assumes nothing.
use Rattle.std.proofs.Common.{not, T, sym, ap, ◌∙◌, subst}
use lib.Ieee.{Float, binary32, fits, is_nan, of_bits}
use Rattle.rules.specs.Numbers.{fused}
use Rattle.rules.specs.Samples.{phase_of}
use Rattle.rules.specs.Walk.{from_start}
use Rattle.samples.specs.At.{target_at}
use Rattle.rounding_laws.proofs.Decode.{finite_no_nan}
use Rattle.decays.proofs.Fits.{decay_fits, decay_no_nan}
use Rattle.runs.proofs.target_by.Goals as goal

pub returns-then-time-start_time : goal.returns-then-time-start_time
unfolding from_start
returns-then-time-start_time c = rw c.if-time-start_time.true

pub fused_wide-requires : goal.fused_wide-requires
fused_wide-requires c =
    let p = c.args.line.ends in
    let e = sym c.decay_at-f.ensures in
    record {
      t = (p.0, subst (λ (v : Float). T (fits binary32 v)) e (decay_fits _), p.1);
      t_2 = (finite_no_nan _ p.2, subst (λ (v : Float). T (not (is_nan v))) e (decay_no_nan _), finite_no_nan _ p.3);
    }

pub returns : goal.returns
unfolding from_start target_at phase_of of_bits
returns c =
    let a = c.args in
    rw c.if-time-start_time.false (c.fused_wide.ensures ∙ ap (λ (v : Float). fused binary32 a.line.a v a.line.«c») c.decay_at-f.ensures)
