-- `phases::phase_sum_seen` meets its contract. Assumes nothing.
use borrow.Author.Rules.{rules}
use mathlib.Core.Path.{refl, sym, ap, ◌∙◌, subst}
use mathlib.Core.Logic.{inl, inr}
use mathlib.Core.Bool.{not}
use Prim.Native.Nat.{◌*◌, ◌%◌, ◌^◌, ◌≤◌, ◌<◌}
use native.Mathlib.Omega.{arith}
use lib.Dec.{T}
use lib.Ieee.{Float, binary32, binary64, add, mul, to_bits, fits, is_nan}
use lib.Ieee.Fits.{add-fits}
use borrow.Author.Tests.{ltb-false}
use lib.Ieee.Bits.{is_false, to_bits-lt, of_bits-to_bits, nan_bits_is, nan_bits_above}
use Rattle.rules.specs.Numbers.{fused}
use Rattle.rounding_laws.proofs.Cut.{plain_nan}
use Rattle.rounding_laws.proofs.Wide.{fast_law, mul_no_nan, add_no_nan}
use Rattle.phases.proofs.Phase.{phase, phase_is, phase_finite, cut_nan, phase_fits}
use Rattle.phases.proofs.phase_sum_seen.Goals as goal
use Rattle.phases.proofs.phase_sum_seen.Goals.{Start}

held : (c : Start) → T (fits binary64 c.args.x)
held c = subst T (sym c.well_formed.1.0.1) tt

abbrev y : Start → Float
y c = phase c.args.x (held c) c.requires.within.0 c.requires.within.1

abbrev sum : Start → Float
sum c = add binary64 (mul binary64 c.args.a (y c)) c.args.c

below : (c : Start) → to_bits binary64 (sum c) < 2 ^ 64
below c = to_bits-lt binary64 (sum c) (add-fits binary64 (mul binary64 c.args.a (y c)) c.args.c)

no_nan : (c : Start) → T (not (is_nan (sum c)))
no_nan c =
    add_no_nan binary64 (mul binary64 c.args.a (y c)) c.args.c (mul_no_nan binary64 c.args.a (y c) c.requires.t.2 (phase_finite c.args.x (held c) c.requires.within.0 c.requires.within.1)) c.requires.t.3

top : (c : Start) → to_bits binary64 (sum c) % 2 ^ 63 ≤ 2047 * 2 ^ 52
top c =
    let n = to_bits binary64 (sum c) in
    let back = of_bits-to_bits binary64 (sum c) (add-fits binary64 (mul binary64 c.args.a (y c)) c.args.c) in
    ltb-false (2047 * 2 ^ 52) (n % 2 ^ 63)
    (sym (nan_bits_above binary64 n) ∙ nan_bits_is binary64 n ∙ ap is_nan back ∙ is_false (is_nan (sum c)) (no_nan c))

pub float_to_bits-b : goal.float_to_bits-b
float_to_bits-b c = c.requires.within.2

pub overflow_add-q : goal.overflow_add-q
overflow_add-q c = search rules

pub overflow_add-q-2 : goal.overflow_add-q-2
overflow_add-q-2 c = search rules

pub float_from_bits-y : goal.float_from_bits-y
float_from_bits-y c = cut_nan c.args.x (held c) c.requires.within.0 c.requires.within.1

pub float_to_bits-n : goal.float_to_bits-n
float_to_bits-n c = no_nan c

pub overflow_add-r : goal.overflow_add-r
overflow_add-r c = omega (arith, below c, top c)

pub returns-then-l-ne0 : goal.returns-then-l-ne0
returns-then-l-ne0 c =
    let s = (goal.at.returns-then-l-ne0 c).Start in
    let n = to_bits binary64 (sum s) in
    let lo = c.if-m-ge4044232465378705408.true in
    let hi = c.if-m-lt5174635971848699904.true in
    inr (
      fast_law c.args.a (y s) c.args.c c.requires.t.0 (phase_fits c.args.x (held s) c.requires.within.0 c.requires.within.1) c.requires.t.1 n refl (no_nan s) lo hi c.if-l-ne0.true
          ∙ ap (λ (v : Float). fused binary32 c.args.a v c.args.c) (phase_is c.args.x (held s) c.requires.within.0 c.requires.within.1),
      plain_nan n (below s) lo hi,
    )

pub returns-else-l-ne0 : goal.returns-else-l-ne0
returns-else-l-ne0 c = inl refl

pub returns-else-m-lt5174635971848699904 : goal.returns-else-m-lt5174635971848699904
returns-else-m-lt5174635971848699904 c = inl refl

pub returns-else-m-ge4044232465378705408 : goal.returns-else-m-ge4044232465378705408
returns-else-m-ge4044232465378705408 c = inl refl
