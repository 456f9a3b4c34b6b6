-- `runs::positions_from` meets its contract. Assumes nothing.
use Rattle.std.proofs.Common.{length, rules}
use lib.Ieee.{nan}
use Rattle.runs.specs.Rising.{position_of}
use Rattle.runs.proofs.Filling.{run_told}
use Rattle.runs.proofs.positions_from.Goals as goal

pub returns : goal.returns
unfolding position_of
returns c =
    let a = c.args in (
      rw (← c.requires) (run_told (position_of a.n a.start_time a.duration) a.times.period (length a.ps.now) a.times.first c.at_times.new.out c.at_times.auto.out
          (λ k h. let p = c.at_times.ensures.each.at k nan h in search rules)),
      rw (← c.requires) c.at_times.ensures.next,
    )
