-- `mix_parts` meets its contract: after each part the first i places are mixed. Assumes nothing.
use Rattle.block.specs.Asked.{mixed_in}
use Rattle.block.proofs.Parts.{Mixing}
use Rattle.block.proofs.mix_parts.Given as goal

abbrev pub invariant-loop-i : goal.invariant-loop-i
invariant-loop-i l = Mixing (mixed_in l.bounds l.input l.initial.output) l.initial.output l.i l.output
