-- `text::real::F64Real::bits` meets its contract: the one pattern of a NaN, and of any other float its own. Assumes nothing.
use mathlib.Core.Path.{sym, subst}
use lib.Dec.{T}
use lib.Ieee.{binary64, to_bits}
use Rattle.text.proofs.Patterns.{differs, differs_not, word_back}
use Rattle.text.proofs.real.F64Real.bits.Goals as goal

pub float_to_bits-result : goal.float_to_bits-result
float_to_bits-result c = differs_not _ c.if-self.false

pub returns-then-self-clause-is : goal.returns-then-self-clause-is
unfolding to_bits
returns-then-self-clause-is c = differs binary64 _ c.if-self.true

pub returns-then-self-clause-back : goal.returns-then-self-clause-back
returns-then-self-clause-back c = word_back binary64 _ (subst T (sym c.well_formed.0.1) tt)

pub returns-else-self-clause-back : goal.returns-else-self-clause-back
returns-else-self-clause-back c = word_back binary64 _ (subst T (sym c.well_formed.0.1) tt)
