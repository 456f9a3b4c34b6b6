-- `flush` meets its contract: the loop flushes the places filled. Assumes nothing.
use native.Mathlib.Omega.{arith}
use lib.Ieee as Ieee
use Rattle.rules.specs.Numbers.{is_zero}
use Rattle.fills.proofs.Flushes.{begins, goes_on, ends, none}
use Rattle.fills.proofs.flush.Goals as goal

pub loop-i-init : goal.loop-i-init
loop-i-init c = begins c.args.filled c.args.buffer.now c.requires

pub loop-i-preserved : goal.loop-i-preserved
loop-i-preserved c =
    let a = c.args in
    let r = c.without_subnormal in
    goes_on a.filled a.buffer.now c.loop-i.invariant (omega arith) _ r.result r.ensures

pub returns-after-loop-i : goal.returns-after-loop-i
unfolding is_zero Ieee.of_bits
returns-after-loop-i c =
    let a = c.args in
    ends a.filled a.buffer.now c.loop-i.invariant a.target c.if-target.true (omega arith)

pub returns-else-target : goal.returns-else-target
unfolding is_zero Ieee.of_bits
returns-else-target c = let a = c.args in none a.target a.filled a.buffer.now c.if-target.false
