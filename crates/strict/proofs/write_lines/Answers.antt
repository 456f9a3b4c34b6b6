-- `strict::write_lines` meets its contract: with each line that is taken fewer bytes are left. Assumes nothing.
use Rattle.std.proofs.Common.{arith}
use Rattle.lines.proofs.Taking.{taken_in, rest_in, fewer_left}
use Rattle.strict.proofs.write_lines.Goals as goal

pub write_next-requires : goal.write_next-requires
write_next-requires c =
    let l = c.loop-lines.invariant.0 in
    (taken_in _ _ l.lines c.next_line-t.ensures, l.input_long, l.strict_long)

pub loop-lines-smaller : goal.loop-lines-smaller
loop-lines-smaller c = fewer_left _ _ c.loop-lines.invariant.0.lines c.next_line-t.ensures c.if-rest-lines.false

pub loop-lines-preserved : goal.loop-lines-preserved
loop-lines-preserved c =
    let l = c.loop-lines.invariant in
    let k = c.write_next.auto.strict in
    (record { lines = rest_in _ _ l.0.lines c.next_line-t.ensures; input_long = l.0.input_long; strict_long = omega (arith, l.0.strict_long, k) }, omega (arith, l.1, k))
