-- `rounding::narrow_whole` meets its contract: a finite number by its parts, and the others as they are. Assumes nothing.
use mathlib.Core.Path.{◌≡◌, refl, sym, ◌∙◌, subst}
use mathlib.Core.Logic.{◌⊎◌, inl, inr}
use mathlib.Core.Bool.{true, false, true≢false, false≢true}
use Prim.Native.Nat.{ℕ, ◌*◌, ◌^◌, ◌≤◌}
use native.Mathlib.Omega.{arith}
use lib.Dec.{T}
use lib.Pow.{pow_pos}
use lib.Ieee.{Float, nan, inf, fin, binary32, binary64, lt, div, of_bits, nan_bits}
use lib.Ieee.Scale.{finite, round_same}
use Rattle.floats.proofs.Compared.{tested}
use Rattle.rules.specs.Numbers.{narrowed}
use Rattle.rounding_laws.proofs.Decode.{narrowed_value, moved}
use Rattle.rounding.proofs.narrow_whole.Goals as goal
use Rattle.rounding.proofs.narrow_whole.Goals.{After-is_finite}

fine : (c : After-is_finite) → c.is_finite.result ≡ true → finite c.args.x ≡ true
fine c h = tested _ c.is_finite.ensures h

lead : (m j : ℕ) → (2 ^ 52 ≤ m) ⊎ (j ≡ 0) → (2 ^ 63 ≤ m * 2048) ⊎ (j ≤ 896)
lead m j (inl h) = inl (omega arith)
lead m j (inr h) = inr (omega arith)

minus : (x : Float) → finite x ≡ false → lt x (of_bits binary64 0) ≡ true → of_bits binary32 4286578688 ≡ narrowed x
unfolding of_bits lt narrowed
minus nan h k = absurd (false≢true k)
minus (inf true) h k = refl
minus (inf false) h k = absurd (false≢true k)
minus (fin s m e) h k = absurd (true≢false h)

plus : (x : Float) → finite x ≡ false → lt (of_bits binary64 0) x ≡ true → of_bits binary32 2139095040 ≡ narrowed x
unfolding of_bits lt narrowed
plus nan h k = absurd (false≢true k)
plus (inf true) h k = absurd (false≢true k)
plus (inf false) h k = refl
plus (fin s m e) h k = absurd (true≢false h)

neither : (x : Float) → finite x ≡ false → lt x (of_bits binary64 0) ≡ false → lt (of_bits binary64 0) x ≡ false → div binary32 (of_bits binary32 0) (of_bits binary32 0) ≡ narrowed x
unfolding of_bits lt div narrowed
neither nan h k l = refl
neither (inf true) h k l = absurd (true≢false k)
neither (inf false) h k l = absurd (true≢false l)
neither (fin s m e) h k l = absurd (true≢false h)

pub of-p-requires : goal.of-p-requires
of-p-requires c = subst T (sym (fine c.before c.if-is_finite.true)) tt

pub pack-requires : goal.pack-requires
pack-requires c = lead c.of-p.result.m c.of-p.result.j c.of-p.ensures.lead

pub float_from_bits-result : goal.float_from_bits-result
unfolding nan_bits
float_from_bits-result c = tt

pub float_from_bits-result-then-x-2 : goal.float_from_bits-result-then-x-2
unfolding nan_bits
float_from_bits-result-then-x-2 c = tt

pub returns-then-is_finite : goal.returns-then-is_finite
returns-then-is_finite c =
    let p = c.of-p in
    c.pack.ensures
    ∙ round_same binary32 p.result.neg (p.result.m * 2048 * 2 ^ p.result.j) (2 ^ 1085) (p.result.m * 2 ^ p.result.j) (2 ^ 1074) (pow_pos 1085) (pow_pos 1074) (moved p.result.m 2048 (2 ^ p.result.j) (2 ^ 1074) (2 ^ 1085) refl)
    ∙ sym (narrowed_value c.args.x p.result.neg (p.result.m * 2 ^ p.result.j) (2 ^ 1074) (pow_pos 1074) p.ensures.value)

pub returns-then-x : goal.returns-then-x
returns-then-x c = minus c.args.x (tested _ c.is_finite.ensures c.if-is_finite.false) c.if-x.true

pub returns-then-x-2 : goal.returns-then-x-2
returns-then-x-2 c = plus c.args.x (tested _ c.is_finite.ensures c.if-is_finite.false) c.if-x-2.true

pub returns-else-x-2 : goal.returns-else-x-2
returns-else-x-2 c = neither c.args.x (tested _ c.is_finite.ensures c.if-is_finite.false) c.if-x.false c.if-x-2.false
