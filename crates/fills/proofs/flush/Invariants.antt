-- `flush` meets its contract: the loop flushes the places filled. Assumes nothing.
use Rattle.fills.proofs.Flushes.{Flushing}
use Rattle.fills.proofs.flush.Given as goal

abbrev pub invariant-loop-i : goal.invariant-loop-i
invariant-loop-i l =
    Flushing l.filled l.initial.buffer l.i l.buffer
