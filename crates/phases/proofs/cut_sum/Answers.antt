-- `phases::cut_sum` meets its contract. Assumes nothing.
use mathlib.Core.Path.{refl}
use Prim.Native.Nat.{◌^◌, ◌<◌}
use native.Mathlib.Omega.{arith}
use lib.Ieee.{Float, binary64, add, mul, to_bits}
use lib.Ieee.Fits.{add-fits}
use lib.Ieee.Bits.{to_bits-lt}
use Rattle.rounding_laws.proofs.Cut.{plain_nan}
use Rattle.rounding_laws.proofs.Wide.{fast_law}
use Rattle.phases.proofs.Seen.{no_nan}
use Rattle.phases.proofs.cut_sum.Goals as goal
use Rattle.phases.proofs.cut_sum.Goals.{Start}

abbrev sum : Start → Float
sum c = add binary64 (mul binary64 c.args.a c.args.b) c.args.c

below : (c : Start) → to_bits binary64 (sum c) < 2 ^ 64
below c = to_bits-lt binary64 (sum c) (add-fits binary64 (mul binary64 c.args.a c.args.b) c.args.c)

pub overflow_add-r : goal.overflow_add-r
overflow_add-r c = record { fits = omega (arith, below (goal.at.overflow_add-r c).Start, c.if-m-ge5174635971848699904.false) }

pub returns-then-l-ne0 : goal.returns-then-l-ne0
returns-then-l-ne0 c =
    let s = (goal.at.returns-then-l-ne0 c).Start in
    let n = to_bits binary64 (sum s) in
    let lo = c.if-m-lt4044232465378705408.false in
    let hi = c.if-m-ge5174635971848699904.false in
    (fast_law c.args.a c.args.b c.args.c c.requires.0 c.requires.1 c.requires.2 n refl (no_nan (sum s) c.is_nan.ensures.value c.if-is_nan.false) lo hi c.if-l-ne0.true, plain_nan n (below s) lo hi)
