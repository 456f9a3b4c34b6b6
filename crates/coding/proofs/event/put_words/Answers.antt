-- `put_words` meets its contract. Assumes nothing.
use native.Mathlib.Omega.{arith}
use lib.ListN.{length-set}
use Rattle.coding.proofs.Words.{puts_six, puts_words}
use Rattle.coding.proofs.event.put_words.Goals as goal

pub bounds-state-at-2 : goal.bounds-state-at-2
bounds-state-at-2 c = simp length-set (omega arith)

pub bounds-state-at-3 : goal.bounds-state-at-3
bounds-state-at-3 c = simp length-set (omega arith)

pub bounds-state-at-4 : goal.bounds-state-at-4
bounds-state-at-4 c = simp length-set (omega arith)

pub bounds-state-at-5 : goal.bounds-state-at-5
bounds-state-at-5 c = simp length-set (omega arith)

pub bounds-state-at-6 : goal.bounds-state-at-6
bounds-state-at-6 c = simp length-set (omega arith)

pub returns : goal.returns
returns c =
    let a = c.args in
    puts_words a.time a.hold (puts_six a.state.now a.at a.kind a.word _ a.other _ _ c.requires) c.bits-time.ensures c.flag_of-flag.ensures c.time_bits-hold.ensures
