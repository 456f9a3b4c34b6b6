-- `strict::turn` meets its contract: what is left of the input, and what came behind it. Assumes nothing.
use Rattle.std.proofs.Common.{arith}
use Rattle.lines.proofs.Taking.{left-within}
use Rattle.strict.proofs.turn.Goals as goal

pub read_more-requires : goal.read_more-requires
read_more-requires c = (left-within _ _ c.make_room-left.ensures c.in_ok-lines.ensures.lines).inside

pub returns : goal.returns
returns c =
    let r = c.in_ok-lines.ensures in
    let w = left-within _ _ c.make_room-left.ensures r.lines in
    record {
      lines = record { ordered = omega (arith, w.ordered); inside = omega (arith, c.in_ok-got.ensures, c.read_more.auto.input) };
      input_long = omega (arith, r.input_long, c.make_room-left.auto.buf, c.read_more.auto.input);
      strict_long = r.strict_long;
    }
