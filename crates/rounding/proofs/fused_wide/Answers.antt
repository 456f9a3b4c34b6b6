-- `rounding::fused_wide` meets its contract: by the pattern of the sum (`rounding_laws`' Wide), or as `fused_whole32` does. Assumes nothing.
use mathlib.Core.Path.{◌≡◌, refl}
use Prim.Native.Nat.{ℕ, ◌^◌, ◌<◌}
use native.Mathlib.Omega.{arith}
use lib.Ieee.{binary32, binary64, add, mul, of_bits, to_bits}
use lib.Ieee.Fits.{add-fits}
use lib.Ieee.Bits.{to_bits-lt}
use Rattle.rules.specs.Numbers.{fused}
use Rattle.rounding_laws.specs.Cut.{plain_cut}
use Rattle.rounding_laws.proofs.Cut.{no_nan_eq, plain_nan, cast_ok}
use Rattle.rounding_laws.proofs.Wide.{fast_law}
use Rattle.rounding_laws.proofs.Fuse.{fused_fits}
use Rattle.rounding.proofs.fused_wide.Goals as goal
use Rattle.rounding.proofs.fused_wide.Goals.{Start, Then-l-ne0}

abbrev n_of : Start → ℕ
n_of c = to_bits binary64 (add binary64 (mul binary64 c.args.a c.args.b) c.args.c)

below : (c : Start) → n_of c < 2 ^ 64
below c = to_bits-lt binary64 (add binary64 (mul binary64 c.args.a c.args.b) c.args.c) (add-fits binary64 (mul binary64 c.args.a c.args.b) c.args.c)

whole : (k : Then-l-ne0) → of_bits binary64 (plain_cut (n_of k.before.before.before.before)) ≡ fused binary32 k.args.a k.args.b k.args.c
whole k =
    let a = k.before.before.before.before in
    fast_law a.args.a a.args.b a.args.c a.requires.t.0 a.requires.t.1 a.requires.t.2 (n_of a) refl
    (no_nan_eq (add binary64 (mul binary64 a.args.a a.args.b) a.args.c) k.if-s.true)
    k.if-m-ge-LOW.true k.if-m-lt-HIGH.true k.if-l-ne0.true

pub float_to_bits-n : goal.float_to_bits-n
float_to_bits-n c = no_nan_eq (add binary64 (mul binary64 c.args.a c.args.b) c.args.c) c.if-s.true

pub overflow_add-r : goal.overflow_add-r
overflow_add-r c = omega (arith, below c.before.before.before)

pub float_from_bits-result : goal.float_from_bits-result
float_from_bits-result c =
    let a = c.before.before.before.before in
    plain_nan (n_of a) (below a) c.if-m-ge-LOW.true c.if-m-lt-HIGH.true

pub float_to_float-result : goal.float_to_float-result
float_to_float-result c =
    let k = c.before in
    let a = k.before.before.before.before in
    cast_ok (plain_cut (n_of a)) (fused binary32 c.args.a c.args.b c.args.c) (whole k) (fused_fits binary32 c.args.a c.args.b c.args.c) (plain_nan (n_of a) (below a) c.if-m-ge-LOW.true c.if-m-lt-HIGH.true)

pub returns-then-l-ne0 : goal.returns-then-l-ne0
returns-then-l-ne0 c = whole c.before
