-- `cut` meets its contract: what it leaves of the numbers of the events looked at is closed up. Assumes nothing.
use Rattle.curves.proofs.Cuts.{Closed}
use Rattle.curves.proofs.cut.Given as goal

abbrev pub invariant-loop-slot : goal.invariant-loop-slot
invariant-loop-slot l = Closed l.equal l.c l.fn.q l.initial.part l.part l.from l.to l.slot-index
