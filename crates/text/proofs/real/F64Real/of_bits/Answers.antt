-- `text::real::F64Real::of_bits` meets its contract: a NaN's pattern gives the NaN, any other its float. Assumes nothing.
use mathlib.Core.Path.{sym}
use lib.Ieee.{binary64, div, of_bits}
use Rattle.text.proofs.Patterns.{a_nan, no_nan}
use Rattle.text.proofs.real.F64Real.of_bits.Goals as goal

pub float_from_bits-result : goal.float_from_bits-result
float_from_bits-result c = no_nan binary64 _ c.if-bits-gt9218868437227405312.false

pub returns-then-bits-gt9218868437227405312 : goal.returns-then-bits-gt9218868437227405312
unfolding div of_bits
returns-then-bits-gt9218868437227405312 c = sym (a_nan binary64 _ c.if-bits-gt9218868437227405312.true)
