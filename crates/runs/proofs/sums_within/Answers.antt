-- `runs::sums_within` meets its contract. Assumes nothing.
use Rattle.std.proofs.Common.{rules, arith}
use lib.Ieee.{nan}
use Rattle.phases.specs.Once.{Within}
use Rattle.runs.specs.Passes.{phase_sum}
use Rattle.runs.proofs.Eaching.{any_other}
use Rattle.runs.proofs.Passing.{each_told}
use Rattle.runs.proofs.sums_within.Goals as goal

pub each_of-requires-clause-callable : goal.each_of-requires-clause-callable
each_of-requires-clause-callable c = record { at = λ k x h l r p b u. let o = c.requires.once in (c.args.line.ends, (o.0, any_other (Within c.args.bx) c.args.xs.now k nan x h (o.3 k (omega arith)))) }

pub returns : goal.returns
unfolding phase_sum
returns c =
    let a = c.args in
    each_told (phase_sum a.line.«c» a.line.a) a.xs.now c.each_of.new.out c.each_of.ensures.as_many (λ k h. let p = c.each_of.ensures.at k nan nan h in search rules)
