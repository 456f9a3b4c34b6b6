-- `rounding::fused_tie` meets its contract: where the sum is exact (`rounding_laws`' Exact), or as `fused_whole32` does. Assumes nothing.
use mathlib.Core.Path.{◌≡◌, refl, sym, ◌∙◌, subst}
use mathlib.Core.Logic.{◌⊎◌, inl, inr}
use mathlib.Core.Bool.{not, ◌&&◌}
use Prim.Native.Nat.{ℕ, ◌+◌, ◌/◌, ◌%◌, ◌^◌, ◌≤◌, ◌<◌}
use lib.Dec.{T}
use lib.Ieee.{Float, binary32, binary64, add, mul, of_bits, to_bits, fits, is_nan}
use lib.Ieee.Fits.{add-fits}
use lib.Ieee.Bits.{to_bits-lt}
use Rattle.rules.specs.Numbers.{fused}
use Rattle.rounding_laws.specs.Cut.{even_cut}
use Rattle.rounding_laws.proofs.Cut.{no_nan_eq, even_nan, cast_ok}
use Rattle.rounding_laws.proofs.Fuse.{fused_fits}
use Rattle.rounding_laws.proofs.Exact.{field, tie_law}
use Rattle.rounding.proofs.fused_tie.Goals as goal
use Rattle.rounding.proofs.fused_tie.Goals.{Start, Then-f-fa}

abbrev whole_sum : Start → Float
whole_sum a = add binary64 (mul binary64 a.args.a a.args.b) a.args.c

abbrev n_of : Start → ℕ
n_of a = to_bits binary64 (whole_sum a)

below : (a : Start) → n_of a < 2 ^ 64
below a = to_bits-lt binary64 (whole_sum a) (add-fits binary64 (mul binary64 a.args.a a.args.b) a.args.c)

module _ (k : Then-f-fa) where
  abbrev a : Start
  a = k.before.before.before.before

  whole : (to_bits binary64 a.args.c % 2 ^ 63 ≡ 0) ⊎ (n_of a % 2 ^ 63 / 2 ^ 52 ≤ field a.args.c + 29) → of_bits binary64 (even_cut (n_of a)) ≡ fused binary32 a.args.a a.args.b a.args.c
  whole o =
      tie_law a.args.a a.args.b a.args.c a.requires.t.0 a.requires.t.1 a.requires.t.2 (n_of a) refl (no_nan_eq (whole_sum a) k.if-s.true) k.if-m-ge-LOW.true k.if-m-lt-HIGH.true k.if-f-fa.true o

  cast : (v : Float) → v ≡ of_bits binary64 (even_cut (n_of a)) → (to_bits binary64 a.args.c % 2 ^ 63 ≡ 0) ⊎ (n_of a % 2 ^ 63 / 2 ^ 52 ≤ field a.args.c + 29) → T (fits binary32 v && not (is_nan v))
  cast v e o =
      subst (λ (w : Float). T (fits binary32 w && not (is_nan w))) (sym e)
      (cast_ok (even_cut (n_of a)) (fused binary32 a.args.a a.args.b a.args.c) (whole o) (fused_fits binary32 a.args.a a.args.b a.args.c) (even_nan (n_of a) (below a) k.if-m-ge-LOW.true k.if-m-lt-HIGH.true))

pub float_to_bits-n : goal.float_to_bits-n
float_to_bits-n c = no_nan_eq (whole_sum c.before) c.if-s.true

pub float_to_float-result : goal.float_to_float-result
float_to_float-result c = let e = c.before in cast e.before.before c.even.result c.even.ensures (inl c.if-z-eq0.true)

pub returns-then-z-eq0 : goal.returns-then-z-eq0
returns-then-z-eq0 c = let e = c.before in c.even.ensures ∙ whole e.before.before (inl c.if-z-eq0.true)

pub float_to_float-result-then-f-z : goal.float_to_float-result-then-f-z
float_to_float-result-then-f-z c = let e = c.before in cast e.before.before.before c.even-then-f-z.result c.even-then-f-z.ensures (inr c.if-f-z.true)

pub returns-then-f-z : goal.returns-then-f-z
returns-then-f-z c = let e = c.before in c.even-then-f-z.ensures ∙ whole e.before.before.before (inr c.if-f-z.true)
