-- `samples_c::samples_exponential` meets its contract. Assumes nothing.
use mathlib.Core.Path.{ap, ◌∙◌}
use mir.Facts.{to_z-of_z}
use lib.IntN.{ℤ}
use lib.ListN.{length}
use Rattle.rules.specs.Numbers.{run}
use Rattle.samples.specs.At.{exponential_at}
use Rattle.samples_c.proofs.samples_exponential.Goals as goal

pub returns : goal.returns
returns c =
    let a = c.args in
    c.compute_exponential_ramp_samples.ensures
    ∙ ap (λ (l : ℤ). run (exponential_at a.start_time a.duration a.start_value l) a.dt (length a.out.now) a.time) (to_z-of_z c.ranges.log)
