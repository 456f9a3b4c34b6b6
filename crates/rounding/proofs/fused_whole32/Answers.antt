-- `rounding::fused_whole32` meets its contract: with an operand that is no finite number the plain operators, or c itself, are right. Assumes nothing.
use mathlib.Core.Path.{sym, subst}
use lib.Dec.{T}
use lib.Ieee.{binary32}
use Rattle.floats.proofs.Compared.{tested}
use Rattle.rounding_laws.proofs.Fuse.{fused-left, fused_middle, fused_right}
use Rattle.rounding.proofs.fused_whole32.Goals as goal

pub fused_finite32-requires : goal.fused_finite32-requires
fused_finite32-requires c = (subst T (sym (tested _ c.is_finite.ensures c.if-is_finite.true)) tt, subst T (sym (tested _ c.is_finite-then-is_finite.ensures c.if-is_finite-2.true)) tt, subst T (sym (tested _ c.is_finite-then-is_finite-2.ensures c.if-is_finite-3.true)) tt)

pub returns-else-is_finite-3 : goal.returns-else-is_finite-3
returns-else-is_finite-3 c = fused_right binary32 c.args.a c.args.b c.args.c (tested _ c.is_finite.ensures c.if-is_finite.true) (tested _ c.is_finite-then-is_finite.ensures c.if-is_finite-2.true) (tested _ c.is_finite-then-is_finite-2.ensures c.if-is_finite-3.false)

pub returns-else-is_finite-2 : goal.returns-else-is_finite-2
returns-else-is_finite-2 c = fused_middle binary32 c.args.a c.args.b c.args.c (tested _ c.is_finite.ensures c.if-is_finite.true) (tested _ c.is_finite-then-is_finite.ensures c.if-is_finite-2.false)

pub returns-else-is_finite : goal.returns-else-is_finite
returns-else-is_finite c = fused-left binary32 c.args.a c.args.b c.args.c (tested _ c.is_finite.ensures c.if-is_finite.false)
