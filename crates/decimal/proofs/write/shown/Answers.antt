-- `decimal::write::shown` meets its contract: a NaN, an infinity, or a number by its value. Assumes nothing.
use Rattle.std.proofs.Common.{T, sym, ap, ◌∙◌, subst, pow_pos}
use lib.Ieee.{of_bits}
use lib.Ieee.Compare.{differs_from_itself}
use Rattle.floats.proofs.Compared.{tested}
use Rattle.decimal.specs.Shown.{shown}
use Rattle.decimal.proofs.Showing.{value_shown, infinite_shown}
use Rattle.decimal.proofs.write.shown.Goals as goal

pub returns-then-x : goal.returns-then-x
unfolding shown
returns-then-x c = sym (ap shown (differs_from_itself _ (subst T (sym c.if-x.true) tt)))

pub of-p-requires : goal.of-p-requires
of-p-requires c = subst T (sym (tested _ c.is_finite.ensures c.if-is_finite.true)) tt

pub returns-then-is_finite : goal.returns-then-is_finite
returns-then-is_finite c = c.shown_as.ensures ∙ value_shown _ _ _ _ (pow_pos 1074) c.of-p.ensures.value

pub returns : goal.returns
unfolding of_bits
returns c = infinite_shown _ c.if-x.false (tested _ c.is_finite.ensures c.if-is_finite.false)
