-- `put_head` meets its contract. Assumes nothing.
use mathlib.Core.Path.{◌∙◌}
use native.Mathlib.Omega.{arith}
use lib.ListN.{length-set}
use Rattle.param.specs.Param.{param_of}
use Rattle.coding.proofs.Written.{last_length, puts_head}
use Rattle.coding.proofs.put_head.Goals as goal

pub bounds-state-4 : goal.bounds-state-4
bounds-state-4 c = simp length-set (omega arith)

pub bounds-state-5 : goal.bounds-state-5
bounds-state-5 c = simp length-set (omega arith)

pub bounds-state-6 : goal.bounds-state-6
bounds-state-6 c = simp length-set (omega arith)

pub bounds-state-7 : goal.bounds-state-7
bounds-state-7 c = simp length-set (omega arith)

pub bounds-state-8 : goal.bounds-state-8
bounds-state-8 c = simp length-set (omega arith)

pub bounds-state-9 : goal.bounds-state-9
bounds-state-9 c = simp length-set (omega arith)

pub bounds-state-10 : goal.bounds-state-10
bounds-state-10 c = simp length-set (omega arith)

pub put_last-requires : goal.put_last-requires
put_last-requires c = simp length-set c.requires.1

pub bounds-state-14 : goal.bounds-state-14
bounds-state-14 c = rw c.put_last.ensures.is (simp length-set (omega (arith, c.requires.1)))

pub shape_of-state : goal.shape_of-state
shape_of-state c = length-set c.put_last.new.state 14 c.len.result ∙ last_length c.put_last.ensures ∙ simp length-set

pub returns : goal.returns
returns c =
    puts_head
    (param_of c.args.p)
    c.args.state.now
    c.put_last.ensures
    c.requires.1
    c.bounds-bounds.ensures
    c.automation_rate.ensures
    c.edition.ensures
    c.intrinsic_value.ensures
    c.last_block_time-block.ensures
    c.last_block_end-end.ensures
    c.last_event.ensures
    c.len.ensures
    c.bits.ensures
    c.bits-2.ensures
    c.bits-3.ensures
    c.rate_word.ensures
    c.edition_word.ensures
    c.bits-4.ensures
    c.flag_of.ensures
    c.time_bits.ensures
    c.flag_of-2.ensures
    c.time_bits-2.ensures
