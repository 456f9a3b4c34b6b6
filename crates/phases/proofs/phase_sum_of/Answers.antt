-- `phases::phase_sum_of` meets its contract. Assumes nothing.
use mathlib.Core.Path.{sym, subst}
use lib.Dec.{T}
use lib.Ieee.{binary32, binary64, of_bits}
use Rattle.rules.specs.Numbers.{narrowed, fused}
use Rattle.rounding_laws.proofs.Cut.{cast_ok, narrowed_fits}
use Rattle.rounding_laws.proofs.Fuse.{fused_fits}
use Rattle.phases.proofs.Seen.{holds_fits}
use Rattle.phases.proofs.phase_sum_of.Goals as goal

pub cut_sum-requires : goal.cut_sum-requires
cut_sum-requires c = (subst T (sym c.well_formed.0.1) tt, holds_fits c.in-Some.y (narrowed c.args.x) c.in-Some.ensures (narrowed_fits c.args.x), subst T (sym c.well_formed.1.1.0.1) tt)

pub float_to_float-result : goal.float_to_float-result
float_to_float-result c =
    let y = of_bits binary64 c.in-Some.y in
    let s = c.in-Some-cut_sum in
    cast_ok s.s (fused binary32 c.args.a y c.args.c) s.ensures.0 (fused_fits binary32 c.args.a y c.args.c) s.ensures.1
