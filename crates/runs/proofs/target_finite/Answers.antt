-- `runs::target_finite` meets its contract. Assumes nothing.
use Rattle.rules.specs.Walk.{from_start}
use Rattle.samples.specs.At.{target_at}
use Rattle.runs.proofs.Filling.{one_and_rest}
use Rattle.runs.proofs.target_finite.Goals as goal

pub returns-then-times-start_time : goal.returns-then-times-start_time
returns-then-times-start_time c =
    let a = c.args in
    one_and_rest (from_start a.start_time a.intrinsic (target_at a.start_time a.constant a.line.«c» a.line.a)) a.times.period a.times.first a.out.now c.if-out-gt0.true c.target_by.result c.target_by.ensures c.target_rest.new.out c.target_rest.ensures
