-- `phases::phase_sum_once` meets its contract. Assumes nothing.
use Rattle.rounding_laws.proofs.Cut.{no_nan_eq}
use Rattle.phases.proofs.phase_sum_once.Goals as goal

pub float_to_bits-b : goal.float_to_bits-b
float_to_bits-b c = no_nan_eq c.args.x c.if-x.true

pub phase_sum_within-requires : goal.phase_sum_within-requires
phase_sum_within-requires c = record {
  t = c.requires.t;
  once = (c.requires.once, (c.if-b-bx.true, c.if-b-le4607182418800017408.true, no_nan_eq c.args.x c.if-x.true));
}
