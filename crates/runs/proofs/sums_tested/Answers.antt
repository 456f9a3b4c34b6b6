-- `runs::sums_tested` meets its contract. Assumes nothing.
use Rattle.std.proofs.Common.{rules}
use lib.Ieee.{nan}
use Rattle.runs.specs.Passes.{phase_sum}
use Rattle.runs.proofs.Passing.{each_told}
use Rattle.runs.proofs.sums_tested.Goals as goal

pub returns : goal.returns
unfolding phase_sum
returns c =
    let a = c.args in
    each_told (phase_sum a.line.«c» a.line.a) a.xs.now c.each_of.new.out c.each_of.ensures.as_many (λ k h. let p = c.each_of.ensures.at k nan nan h in search rules)
