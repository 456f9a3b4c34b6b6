-- `array::put_head` meets its contract. Assumes nothing.
use Rattle.card_coding.proofs.Kept.{puts_head}
use native.Mathlib.Omega.{arith}
use lib.ListN.{length-set}
use Rattle.card_coding.proofs.array.put_head.Goals as goal

pub bounds-card-4 : goal.bounds-card-4
bounds-card-4 c = simp length-set (omega arith)

pub bounds-card-5 : goal.bounds-card-5
bounds-card-5 c = simp length-set (omega arith)

pub bounds-card-6 : goal.bounds-card-6
bounds-card-6 c = simp length-set (omega arith)

pub bounds-card-7 : goal.bounds-card-7
bounds-card-7 c = simp length-set (omega arith)

pub bounds-card-8 : goal.bounds-card-8
bounds-card-8 c = simp length-set (omega arith)

pub shape_of-card : goal.shape_of-card
shape_of-card c = simp length-set

pub returns : goal.returns
returns c =
    puts_head c.args.r c.requires c.verdict_number.ensures c.rate_word.ensures c.bit_of.ensures c.flag_of.ensures c.time_bits.ensures
