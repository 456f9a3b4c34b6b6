-- `runs::exponential_finite` meets its contract. Assumes nothing.
use Rattle.rules.specs.Samples.{phase_of}
use Rattle.samples.specs.At.{exponential_over}
use Rattle.runs.proofs.Filling.{one_and_rest}
use Rattle.runs.proofs.exponential_finite.Goals as goal

pub returns-then-times-start_time : goal.returns-then-times-start_time
unfolding exponential_over phase_of
returns-then-times-start_time c =
    let a = c.args in
    one_and_rest (exponential_over a.start_time a.duration a.«from» a.l) a.times.period a.times.first a.out.now c.if-out-gt0.true c.grown_at.result c.grown_at.ensures c.exponential_rest.new.out c.exponential_rest.ensures
