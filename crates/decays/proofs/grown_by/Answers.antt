-- `decays::grown_by` meets its contract. Assumes nothing.
use Rattle.std.proofs.Common.{rules}
use lib.Ieee.{binary64, mul}
use Rattle.rules.specs.Numbers.{narrowed}
use Rattle.rules.specs.Samples.{factor_of}
use Rattle.rounding_laws.proofs.Cut.{cast_ok, narrowed_fits}
use Rattle.decays.specs.Cell.{Grown}
use Rattle.decays.proofs.Growth.{cell_nan}
use Rattle.decays.proofs.grown_by.Goals as goal

pub float_from_bits-result : goal.float_from_bits-result
float_from_bits-result c = cell_nan c.args.«from» c.in-Some.m c.in-Some-cell_of.s c.in-Some-cell_of.ensures

pub float_to_float-result : goal.float_to_float-result
float_to_float-result c =
    let a = c.args in
    let s = c.in-Some-cell_of.s in
    let cell = c.in-Some-cell_of.ensures in
    let g : Grown a.x c.in-Some.m = search rules in
    cast_ok s (narrowed (mul binary64 a.«from» (factor_of a.x))) (g.tells a.«from» s c.requires.0 cell) (narrowed_fits (mul binary64 a.«from» (factor_of a.x))) (cell_nan a.«from» c.in-Some.m s cell)
