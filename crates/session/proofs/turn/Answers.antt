-- `session::turn` meets its contract: what is left of the input, and what came behind it. Assumes nothing.
use Rattle.std.proofs.Common.{arith, zero-le}
use Rattle.lines.proofs.Taking.{left-within}
use Rattle.session.proofs.turn.Goals as goal

pub read_more-requires : goal.read_more-requires
read_more-requires c = (left-within _ _ c.make_room-left.ensures c.answer_lines-s.ensures.going.lines).inside

pub returns : goal.returns
returns c =
    let r = c.answer_lines-s.ensures.going in
    let w = left-within _ _ c.make_room-left.ensures r.lines in
    record {
      desk = r.desk;
      lines = record { ordered = omega (arith, w.ordered); inside = omega (arith, c.in_ok-n.ensures, c.read_more.auto.input) };
      at = zero-le;
      lent = r.lent;
    }
