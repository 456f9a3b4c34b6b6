-- `runs::fractions` meets its contract. Assumes nothing.
use Rattle.std.proofs.Common.{rules}
use lib.Ieee.{nan}
use lib.Ieee.{Float, binary64, sub}
use Rattle.runs.proofs.Passing.{each_told}
use Rattle.runs.proofs.fractions.Goals as goal

pub returns : goal.returns
returns c =
    let a = c.args in
    each_told (λ (p : Float). sub binary64 p a.k) a.ps.now c.each_of.new.out c.each_of.ensures.as_many (λ k h. let p = c.each_of.ensures.at k nan nan h in search rules)
