-- `rounding::narrow` meets its contract: by the pattern (`rounding_laws`' Cut), or as `narrow_whole` does. Assumes nothing.
use mathlib.Core.Path.{◌≡◌, refl, sym, ◌∙◌, subst}
use mathlib.Core.Bool.{not, ◌&&◌}
use Prim.Native.Nat.{◌^◌, ◌<◌}
use lib.Dec.{T}
use lib.Ieee.{Float, binary32, binary64, of_bits, to_bits, fits, is_nan}
use lib.Ieee.Bits.{to_bits-lt}
use Rattle.rules.specs.Numbers.{narrowed}
use Rattle.rounding_laws.specs.Cut.{even_cut}
use Rattle.rounding_laws.proofs.Cut.{no_nan_eq, even_law, narrowed_fits, even_nan, cast_ok}
use Rattle.rounding.proofs.narrow.Goals as goal
use Rattle.rounding.proofs.narrow.Goals.{Start, Then-m-lt-HIGH}

held : (c : Start) → T (fits binary64 c.args.x)
held c = subst T (sym c.well_formed.0.1) tt

below : (c : Start) → to_bits binary64 c.args.x < 2 ^ 64
below c = to_bits-lt binary64 c.args.x (held c)

whole : (k : Then-m-lt-HIGH) → of_bits binary64 (even_cut (to_bits binary64 k.args.x)) ≡ narrowed k.args.x
whole k =
    let a = k.before.before.before in
    even_law a.args.x (held a) (to_bits binary64 a.args.x) refl (below a) k.if-m-ge-LOW.true k.if-m-lt-HIGH.true

pub float_to_bits-b : goal.float_to_bits-b
float_to_bits-b c = no_nan_eq c.args.x c.if-x.true

pub float_to_float-result : goal.float_to_float-result
float_to_float-result c =
    let k = c.before.before in
    let x = c.args.x in
    subst (λ (v : Float). T (fits binary32 v && not (is_nan v))) (sym c.even.ensures)
    (cast_ok (even_cut (to_bits binary64 x)) (narrowed x) (whole k) (narrowed_fits x) (even_nan (to_bits binary64 x) (below k.before.before.before) c.if-m-ge-LOW.true c.if-m-lt-HIGH.true))

pub returns-then-m-lt-HIGH : goal.returns-then-m-lt-HIGH
returns-then-m-lt-HIGH c = c.even.ensures ∙ whole c.before.before
