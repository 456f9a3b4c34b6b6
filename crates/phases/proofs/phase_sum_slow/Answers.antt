-- `phases::phase_sum_slow` meets its contract. Assumes nothing.
use mathlib.Core.Path.{◌≡◌, sym, ap, ◌∙◌, subst}
use mathlib.Core.Bool.{not}
use lib.Dec.{T}
use lib.Ieee.{Float, binary32, binary64, of_bits, is_nan, fits}
use lib.Ieee.Fits.{and_i, fits_widens}
use Rattle.rules.specs.Numbers.{narrowed, fused}
use Rattle.rounding_laws.proofs.Decode.{finite_no_nan}
use Rattle.rounding_laws.proofs.Cut.{no_nan_eq, narrowed_fits}
use Rattle.phases.proofs.phase_sum_slow.Goals as goal

kept : (v x : Float) → v ≡ narrowed x → T (fits binary32 v)
kept v x e = subst (λ (w : Float). T (fits binary32 w)) (sym e) (narrowed_fits x)

pub sum_at_zero-requires : goal.sum_at_zero-requires
unfolding of_bits
sum_at_zero-requires c = record {
  t = c.requires;
  plus_zero_value = c.if-x.true;
}

pub returns-then-x : goal.returns-then-x
returns-then-x c = c.sum_at_zero.ensures

pub float_to_float-y : goal.float_to_float-y
float_to_float-y c =
    let v = c.narrow-y.result in
    and_i (fits binary64 v) (not (is_nan v)) (fits_widens v (kept v c.args.x c.narrow-y.ensures)) (no_nan_eq v c.if-y.true)

pub fused_wide-requires : goal.fused_wide-requires
fused_wide-requires c =
    let v = c.narrow-y.result in
    record {
      t = (c.requires.0, kept v c.args.x c.narrow-y.ensures, c.requires.1);
      t_2 = (finite_no_nan c.args.a c.requires.2, no_nan_eq v c.if-y.true, finite_no_nan c.args.c c.requires.3);
    }

pub returns-then-y : goal.returns-then-y
returns-then-y c =
    c.fused_wide.ensures ∙ ap (λ (v : Float). fused binary32 c.args.a v c.args.c) c.narrow-y.ensures

pub float_to_float-a : goal.float_to_float-a
float_to_float-a c = and_i (fits binary32 c.args.a) (not (is_nan c.args.a)) c.requires.0 (finite_no_nan c.args.a c.requires.2)

pub float_to_float-c : goal.float_to_float-c
float_to_float-c c = and_i (fits binary32 c.args.c) (not (is_nan c.args.c)) c.requires.1 (finite_no_nan c.args.c c.requires.3)

pub returns : goal.returns
returns c =
    c.fused32.ensures ∙ ap (λ (v : Float). fused binary32 c.args.a v c.args.c) c.narrow-y.ensures
