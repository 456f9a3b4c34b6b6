-- `mix_silence_direct` meets its contract: the first i places are mixed, unless a NaN was met. Assumes nothing.
use lib.ListN.{length, replicate}
use Rattle.rules.specs.Numbers.{plus_zero}
use Rattle.rules.specs.Mix.{mixed_all}
use Rattle.mix.proofs.Writes.{Trying}
use Rattle.mix.proofs.mix_silence_direct.Given as goal

abbrev pub invariant-loop-i : goal.invariant-loop-i
invariant-loop-i l = Trying (mixed_all l.bounds (replicate (length l.values) plus_zero) l.values) (length l.values) l.initial.output l.told l.i l.output
