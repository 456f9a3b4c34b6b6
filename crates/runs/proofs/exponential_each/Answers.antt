-- `runs::exponential_each` meets its contract. Assumes nothing.
use Rattle.std.proofs.Common.{length, rules}
use lib.Ieee.{nan}
use Rattle.rules.specs.Samples.{phase_of}
use Rattle.samples.specs.At.{exponential_over}
use Rattle.runs.proofs.Filling.{run_told}
use Rattle.runs.proofs.exponential_each.Goals as goal

pub returns : goal.returns
unfolding exponential_over phase_of
returns c =
    let a = c.args in
    run_told (exponential_over a.start_time a.duration a.«from» a.l) a.times.period (length a.out.now) a.times.first c.at_times.new.out c.at_times.auto.out
    (λ k h. let p = c.at_times.ensures.each.at k nan h in search rules)
