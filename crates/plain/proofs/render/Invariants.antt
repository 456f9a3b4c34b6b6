-- `render` meets its contract: the first places have their samples. Assumes nothing.
use mathlib.Core.Path.{◌≡◌}
use Prim.Native.Nat.{◌-◌}
use Rattle.mix.proofs.Writes.{Writes}
use Rattle.plain.specs.Seen.{samples_of}
use Rattle.plain.proofs.render.Given as goal

abbrev pub invariant-loop-place : goal.invariant-loop-place
invariant-loop-place l =
    Writes (samples_of l.param l.infos l.input l.store) l.infos.count l.initial.output l.place l.output × (l.place-end ≡ l.infos.count)

abbrev pub decreases-loop-place : goal.decreases-loop-place
decreases-loop-place l = l.infos.count - l.place
