-- `rounding::fused_finite32` meets its contract: the parts of the operands are their values. Assumes nothing.
use mathlib.Core.Path.{refl, ◌∙◌}
use Prim.Native.Nat.{◌+◌, ◌*◌, ◌^◌, ◌<◌}
use native.Mathlib.Nat.{lt_of_lt_of_le, le_of_lt, pos_of_ne-zero}
use native.Mathlib.Omega.{arith}
use lib.Dec.{lit≤, lit<}
use lib.Ieee.{binary32}
use Rattle.rounding_laws.proofs.Sum.{lead_or_low}
use Rattle.rounding_laws.proofs.Fuse.{fused-parts, fused_none, digits_lt}
use Rattle.rounding.proofs.fused_finite32.Goals as goal
use Rattle.rounding.proofs.fused_finite32.Goals.{After-of-z}

short : (k : After-of-z) → k.of-x.result.m * k.of-y.result.m < 2 ^ 48
short k = digits_lt 24 24 k.of-x.result.m k.of-y.result.m (le_of_lt k.of-x.ensures.short) k.of-y.ensures.short

pub overflow_mul-m : goal.overflow_mul-m
overflow_mul-m c = record { fits = lt_of_lt_of_le (short c.before.before) (lit≤ tt) }

pub returns-then-m-eq0 : goal.returns-then-m-eq0
returns-then-m-eq0 c =
    let x = c.of-x in
    let y = c.of-y in
    let z = c.of-z in
    let a = c.args in
    fused_none binary32 x.result.neg y.result.neg z.result.neg x.result.m y.result.m z.result.m x.result.j y.result.j z.result.j 149 149 a.a a.b a.c x.ensures.value y.ensures.value z.ensures.value c.if-m-eq0.true

pub total-r-requires : goal.total-r-requires
total-r-requires c =
    let e = c.before.before.before.before.before in
    let k = e.before.before.before in
    let z = c.of-z in
    (pos_of_ne-zero c.if-m-eq0.false, lt_of_lt_of_le (short k) (lit≤ tt), omega (arith, z.ensures.short), omega (arith, c.of-x.ensures.reach, c.of-y.ensures.reach), omega (arith, z.ensures.reach), lit< tt)

pub returns : goal.returns
returns c =
    let x = c.of-x in
    let y = c.of-y in
    let z = c.of-z in
    let a = c.args in
    c.norm.ensures
    ∙ c.total-r.ensures.1 binary32 298 refl (lit≤ tt) (lead_or_low binary32 z.result.m z.result.j (z.result.j + 149) 298 39 z.ensures.lead (λ o. omega arith))
    ∙ fused-parts binary32 x.result.neg y.result.neg z.result.neg x.result.m y.result.m z.result.m x.result.j y.result.j z.result.j 149 149 a.a a.b a.c x.ensures.value y.ensures.value z.ensures.value
