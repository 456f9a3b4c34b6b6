-- `rounding::fused64` meets its contract: with an infinity or a NaN the plain operators give the result. Assumes nothing.
use mathlib.Core.Path.{sym, subst}
use native.Mathlib.Nat.{le_trans}
use lib.Dec.{T, lit≤}
use lib.Ieee.{binary64}
use Rattle.floats.proofs.Compared.{tested}
use Rattle.rules.specs.Numbers.{wide}
use Rattle.rounding_laws.proofs.Fuse.{fused_middle, fused_right, wide-held, wide_finite}
use Rattle.rounding.proofs.fused64.Goals as goal

pub fused_finite64-requires : goal.fused_finite64-requires
fused_finite64-requires c =
    (c.requires, subst T (sym (tested _ c.is_finite.ensures c.if-is_finite.true)) tt, subst T (sym (tested _ c.is_finite-then-is_finite.ensures c.if-is_finite-2.true)) tt)

pub int_to_float-result : goal.int_to_float-result
int_to_float-result c = wide-held c.args.n c.requires

pub returns-else-is_finite-2 : goal.returns-else-is_finite-2
returns-else-is_finite-2 c =
    let k = c.before.before.before in
    fused_right binary64 (wide c.args.n) c.args.p c.args.t (wide_finite c.args.n (le_trans c.requires (lit≤ tt))) (tested _ c.is_finite.ensures c.if-is_finite.true) (tested _ c.is_finite-then-is_finite.ensures c.if-is_finite-2.false)

pub returns-else-is_finite : goal.returns-else-is_finite
unfolding wide
returns-else-is_finite c =
    fused_middle binary64 (wide c.args.n) c.args.p c.args.t (wide_finite c.args.n (le_trans c.requires (lit≤ tt))) (tested _ c.is_finite.ensures c.if-is_finite.false)
