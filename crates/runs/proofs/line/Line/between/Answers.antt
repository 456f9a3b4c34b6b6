-- `runs::line::Line::between` meets its contract: both values were found finite. Assumes nothing.
use Rattle.std.proofs.Common.{sym, ◌∙◌}
use Rattle.floats.proofs.Compared.{finite_held, finite_of}
use Rattle.runs.proofs.line.Line.between.Goals as goal

pub float_to_float-result : goal.float_to_float-result
float_to_float-result c = finite_held _ c.type_inv.«from» (sym c.is_finite.ensures ∙ c.if-is_finite.true)

pub float_to_float-result-then-is_finite-2 : goal.float_to_float-result-then-is_finite-2
float_to_float-result-then-is_finite-2 c = finite_held _ c.type_inv.diff (sym c.is_finite-then-is_finite.ensures ∙ c.if-is_finite-2.true)

pub invariant_of-result : goal.invariant_of-result
invariant_of-result c =
    record {
      ends = (c.type_inv.diff, c.type_inv.«from», finite_of c.args.diff (sym c.is_finite-then-is_finite.ensures ∙ c.if-is_finite-2.true), finite_of c.args.«from» (sym c.is_finite.ensures ∙ c.if-is_finite.true));
    }
