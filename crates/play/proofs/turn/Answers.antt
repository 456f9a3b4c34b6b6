-- `play::turn` meets its contract: what is left of the input, and what came behind it. Assumes nothing.
use Rattle.std.proofs.Common.{arith, zero-le}
use Rattle.lines.proofs.Taking.{left-within}
use Rattle.play.proofs.turn.Goals as goal

pub read_more-requires : goal.read_more-requires
read_more-requires c = (left-within _ _ c.make_room-left.ensures c.in_ok-p.ensures.lines).inside

pub returns : goal.returns
returns c =
    let r = c.in_ok-p.ensures in
    let w = left-within _ _ c.make_room-left.ensures r.lines in
    record {
      desk = r.desk;
      lines = record { ordered = omega (arith, w.ordered); inside = omega (arith, c.in_ok-got.ensures, c.read_more.auto.input) };
      at = zero-le;
      lent =
          record {
            input_long = omega (arith, r.lent.input_long, c.make_room-left.auto.buf, c.read_more.auto.input);
            strict_long = r.lent.strict_long;
            numbers_long = r.lent.numbers_long;
            store_long = r.lent.store_long;
            said_long = r.lent.said_long;
            out_long = r.lent.out_long;
          };
    }
