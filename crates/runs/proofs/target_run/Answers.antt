-- `runs::target_run` meets its contract. Assumes nothing.
use Rattle.std.proofs.Common.{length, rules}
use lib.Ieee.{nan}
use Rattle.rules.specs.Walk.{from_start}
use Rattle.samples.specs.At.{target_at}
use Rattle.runs.proofs.Filling.{run_told}
use Rattle.runs.proofs.target_run.Goals as goal

pub returns : goal.returns
returns c =
    let a = c.args in
    run_told (from_start a.start_time a.intrinsic (target_at a.start_time a.time_constant a.end_value a.diff)) a.times.period (length a.out.now) a.times.first c.at_times.new.out c.at_times.auto.out
    (λ k h. let p = c.at_times.ensures.each.at k nan h in search rules)
