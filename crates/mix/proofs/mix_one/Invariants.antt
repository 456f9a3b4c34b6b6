-- `mix_one` meets its contract: the first i places are mixed. Assumes nothing.
use lib.ListN.{length, replicate}
use Rattle.rules.specs.Mix.{mixed_all}
use Rattle.mix.proofs.Writes.{Writes}
use Rattle.mix.proofs.mix_one.Given as goal

abbrev pub invariant-loop-i : goal.invariant-loop-i
invariant-loop-i l = Writes (mixed_all l.bounds l.input (replicate (length l.input) l.value)) (length l.input) l.initial.output l.i l.output
