-- `mix_input` meets its contract: the first i places are mixed. Assumes nothing.
use mathlib.Core.Path.{◌≡◌}
use lib.ListN.{length}
use Rattle.rules.specs.Mix.{mixed_all}
use Rattle.mix.proofs.Writes.{Writes}
use Rattle.mix.proofs.mix_input.Given as goal

abbrev pub invariant-loop-i : goal.invariant-loop-i
invariant-loop-i l = Writes (mixed_all l.bounds l.input l.values) (length l.values) l.initial.output l.i l.output × (length l.input ≡ length l.values)
