-- `rounding::fused32` meets its contract: no operand is a NaN where they are widened. Assumes nothing.
use mathlib.Core.Path.{◌≡◌, sym, subst}
use mathlib.Core.Bool.{true, not, ◌&&◌}
use lib.Dec.{T}
use lib.Ieee.{Float, binary32, binary64, eq, is_nan, fits}
use lib.Ieee.Fits.{and_i, fits_widens}
use Rattle.rounding_laws.proofs.Cut.{no_nan_eq}
use Rattle.rounding.proofs.fused32.Goals as goal

widened : (x : Float) → fits binary32 x ≡ true → eq x x ≡ true → T (fits binary64 x && not (is_nan x))
widened x f e = and_i (fits binary64 x) (not (is_nan x)) (fits_widens x (subst T (sym f) tt)) (no_nan_eq x e)

pub float_to_float-a : goal.float_to_float-a
float_to_float-a c =
    let k = c.before in
    widened c.args.a c.well_formed.0.1 c.if-a.true

pub float_to_float-b : goal.float_to_float-b
float_to_float-b c =
    let k = c.before.before in
    widened c.args.b c.well_formed.1.0.1 c.if-b.true

pub float_to_float-c : goal.float_to_float-c
float_to_float-c c =
    let k = c.before.before.before in
    widened c.args.c c.well_formed.1.1.0.1 c.if-c.true

pub fused_wide-requires : goal.fused_wide-requires
fused_wide-requires c = record {
  t = (subst T (sym c.well_formed.0.1) tt, subst T (sym c.well_formed.1.0.1) tt, subst T (sym c.well_formed.1.1.0.1) tt);
  t_2 = (no_nan_eq c.args.a c.if-a.true, no_nan_eq c.args.b c.if-b.true, no_nan_eq c.args.c c.if-c.true);
}
