-- `runs::phases_from` meets its contract. Assumes nothing.
use Rattle.std.proofs.Common.{length, rules}
use lib.Ieee.{nan}
use Rattle.rules.specs.Samples.{phase_of}
use Rattle.runs.proofs.Filling.{run_told}
use Rattle.runs.proofs.phases_from.Goals as goal

pub returns : goal.returns
unfolding phase_of
returns c =
    let a = c.args in (
      rw (← c.requires) (run_told (phase_of a.start_time a.duration) a.times.period (length a.xs.now) a.times.first c.at_times.new.out c.at_times.auto.out
          (λ k h. let p = c.at_times.ensures.each.at k nan h in search rules)),
      rw (← c.requires) c.at_times.ensures.next,
    )
