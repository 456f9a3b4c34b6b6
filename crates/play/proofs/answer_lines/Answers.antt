-- `play::answer_lines` meets its contract: with each line that is taken fewer bytes are left. Assumes nothing.
use Rattle.std.proofs.Common.{arith}
use Rattle.lines.proofs.Taking.{taken_in, rest_in, fewer_left}
use Rattle.play.proofs.answer_lines.Goals as goal

pub answer_next-requires : goal.answer_next-requires
answer_next-requires c =
    let l = c.loop-lines.invariant in
    (l.desk, taken_in _ _ l.lines c.next_line-t.ensures, l.lent, l.at)

pub loop-lines-smaller : goal.loop-lines-smaller
loop-lines-smaller c = fewer_left _ _ c.loop-lines.invariant.lines c.next_line-t.ensures c.if-rest-lines.false

pub loop-lines-preserved : goal.loop-lines-preserved
loop-lines-preserved c =
    let l = c.loop-lines.invariant in
    let lent = l.lent in
    let r = c.in_ok-r.ensures in
    let k = c.answer_next.auto in
    record {
      desk = r.0;
      lines = rest_in _ _ l.lines c.next_line-t.ensures;
      at = omega (arith, r.1, k.out);
      lent =
          record {
            input_long = lent.input_long;
            strict_long = omega (arith, lent.strict_long, k.strict);
            numbers_long = omega (arith, lent.numbers_long, k.numbers);
            store_long = omega (arith, lent.store_long, k.store);
            said_long = omega (arith, lent.said_long, k.said);
            out_long = omega (arith, lent.out_long, k.out);
          };
    }
