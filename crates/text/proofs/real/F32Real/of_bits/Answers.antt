-- `text::real::F32Real::of_bits` meets its contract: a NaN's pattern gives the NaN, any other its float. Assumes nothing.
use mathlib.Core.Path.{sym}
use lib.Ieee.{binary32, div, of_bits}
use Rattle.text.proofs.Patterns.{a_nan, no_nan}
use Rattle.text.proofs.real.F32Real.of_bits.Goals as goal

pub float_from_bits-result : goal.float_from_bits-result
float_from_bits-result c = no_nan binary32 _ c.if-low-gt2139095040.false

pub returns-then-low-gt2139095040 : goal.returns-then-low-gt2139095040
unfolding div of_bits
returns-then-low-gt2139095040 c = sym (a_nan binary32 _ c.if-low-gt2139095040.true)
