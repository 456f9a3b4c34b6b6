-- The pattern of an `f64` stands for it. Assumes nothing.
use mathlib.Core.Path.{sym, subst}
use lib.Dec.{T}
use lib.Ieee.{binary64}
use lib.Ieee.Bits.{of_bits-to_bits}
use Rattle.rounding.proofs.formats.F64Binary.to_pattern.Goals as goal

pub returns : goal.returns
returns c = of_bits-to_bits binary64 c.args.self (subst T (sym c.well_formed.0.1) tt)
