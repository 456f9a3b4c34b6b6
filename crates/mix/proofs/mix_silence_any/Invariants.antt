-- `mix_silence_any` meets its contract: the first i places are mixed. Assumes nothing.
use lib.ListN.{length, replicate}
use Rattle.rules.specs.Numbers.{plus_zero}
use Rattle.rules.specs.Mix.{mixed_all}
use Rattle.mix.proofs.Writes.{Writes}
use Rattle.mix.proofs.mix_silence_any.Given as goal

abbrev pub invariant-loop-i : goal.invariant-loop-i
invariant-loop-i l = Writes (mixed_all l.bounds (replicate (length l.values) plus_zero) l.values) (length l.values) l.initial.output l.i l.output
