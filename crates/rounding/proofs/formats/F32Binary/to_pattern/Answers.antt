-- The pattern of an `f32` stands for it. Assumes nothing.
use mathlib.Core.Path.{sym, subst}
use native.Mathlib.Omega.{arith}
use lib.Dec.{T}
use lib.Ieee.{binary32}
use lib.Ieee.Bits.{of_bits-to_bits, to_bits-lt}
use Rattle.rounding.proofs.formats.F32Binary.to_pattern.Goals as goal

pub returns : goal.returns
returns c = of_bits-to_bits binary32 c.args.self (subst T (sym c.well_formed.0.1) tt)

pub overflow_cast-result : goal.overflow_cast-result
overflow_cast-result c = record { fits = omega (arith, to_bits-lt binary32 c.args.self (subst T (sym c.well_formed.0.1) tt)) }
