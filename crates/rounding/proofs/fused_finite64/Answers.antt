-- `rounding::fused_finite64` meets its contract: the parts of the operands are their values. Assumes nothing.
use mathlib.Core.Path.{◌≡◌, refl, sym, ap, ◌∙◌, subst}
use mathlib.Core.Bool.{Bool, true, false}
use Prim.Native.Nat.{ℕ, ◌+◌, ◌*◌, ◌^◌, ◌≤◌, ◌<◌}
use native.Mathlib.Nat.{le_trans, lt_of_lt_of_le, pos_of_ne-zero, zero-add, add-zero}
use native.Mathlib.Omega.{arith}
use lib.Dec.{T, lit≤, lit<}
use lib.Pow.{shl_lt, pow_mono}
use lib.Ieee.{binary64, unlike, sum}
use Rattle.rules.specs.Numbers.{wide}
use Rattle.rounding_laws.proofs.Parts.{parted}
use Rattle.rounding_laws.proofs.Sum.{lead_or_low}
use Rattle.rounding_laws.proofs.Fuse.{fused-parts, fused_none, fused-power, digits_lt, wide_value, wide-held}
use Rattle.rounding.proofs.fused_finite64.Goals as goal
use Rattle.rounding.proofs.fused_finite64.Goals.{After-of-z}

like : (s : Bool) → s ≡ unlike false s
like true = refl
like false = refl

-- far from the largest number
far : (m j : ℕ) → m < 2 ^ 53 → j < 2000 → m * 2 ^ (7 + j) < 2 ^ 2098
far m j h l = lt_of_lt_of_le (shl_lt 53 (7 + j) h) (pow_mono (room j l))
  where
    room : (j : ℕ) → j < 2000 → 53 + (7 + j) ≤ 2098
    room j l = omega arith

short : (k : After-of-z) → k.args.n * k.of-y.result.m < 2 ^ 63
short k = let y = k.before.before in digits_lt 10 53 y.args.n y.of-y.result.m y.requires.0 y.of-y.ensures.short

pub int_to_float-result : goal.int_to_float-result
int_to_float-result c = wide-held c.args.n c.requires.0

-- 128 of them
pub returns-then-y-lt2000 : goal.returns-then-y-lt2000
unfolding wide
returns-then-y-lt2000 c =
    let k = c.before.before.before.before in
    let y = c.of-y in
    let a = c.args in
    let z = parted binary64 a.t (subst T (sym c.well_formed.1.1.0.1) tt) c.requires.2 in
    fused-power binary64 false y.result.neg _ a.n y.result.m _ 0 y.result.j _ 0 1074 (wide a.n) a.p a.t (wide_value a.n (le_trans c.requires.0 (lit≤ tt))) y.ensures.value z.value
    7 (ap (λ (n : ℕ). n * 2 ^ 0) c.if-n-eq128.true) refl refl y.ensures.short (far y.result.m y.result.j y.ensures.short c.if-y-lt2000.true)

pub overflow_mul-m : goal.overflow_mul-m
overflow_mul-m c = record { fits = lt_of_lt_of_le (short c.before) (lit≤ tt) }

pub int_to_float-result-then-m-eq0 : goal.int_to_float-result-then-m-eq0
int_to_float-result-then-m-eq0 c = wide-held c.args.n c.requires.0

pub returns-then-m-eq0 : goal.returns-then-m-eq0
unfolding wide
returns-then-m-eq0 c =
    let k = c.before.before.before in
    let y = c.of-y in
    let z = c.of-z in
    let a = c.args in
    fused_none binary64 false y.result.neg z.result.neg a.n y.result.m z.result.m 0 y.result.j z.result.j 0 1074 (wide a.n) a.p a.t (wide_value a.n (le_trans c.requires.0 (lit≤ tt))) y.ensures.value z.ensures.value c.if-m-eq0.true

pub total-r-requires : goal.total-r-requires
total-r-requires c =
    let k = c.before.before in
    let z = c.of-z in
    (pos_of_ne-zero c.if-m-eq0.false, short k, omega (arith, z.ensures.short), omega (arith, c.of-y.ensures.reach), omega (arith, z.ensures.reach), lit< tt)

pub returns : goal.returns
returns c =
    let k = c.before.before.before.before in
    let y = c.of-y in
    let z = c.of-z in
    let a = c.args in
    c.norm.ensures
    ∙ c.total-r.ensures.1 binary64 1074 refl (lit≤ tt) (lead_or_low binary64 z.result.m z.result.j z.result.j 1074 10 z.ensures.lead (λ o. omega arith))
    ∙ ap (λ (i : Bool). sum binary64 i (a.n * y.result.m * 2 ^ y.result.j) z.result.neg (z.result.m * 2 ^ z.result.j) (2 ^ 1074)) (like y.result.neg)
    ∙ ap (λ (i : ℕ). sum binary64 (unlike false y.result.neg) (a.n * y.result.m * 2 ^ i) z.result.neg (z.result.m * 2 ^ z.result.j) (2 ^ 1074)) (sym (zero-add y.result.j))
    ∙ ap (λ (i : ℕ). sum binary64 (unlike false y.result.neg) (a.n * y.result.m * 2 ^ (0 + y.result.j)) z.result.neg (z.result.m * 2 ^ i) (2 ^ 1074)) (sym (add-zero z.result.j))
    ∙ fused-parts binary64 false y.result.neg z.result.neg a.n y.result.m z.result.m 0 y.result.j z.result.j 0 1074 (wide a.n) a.p a.t (wide_value a.n (le_trans c.requires.0 (lit≤ tt))) y.ensures.value z.ensures.value
