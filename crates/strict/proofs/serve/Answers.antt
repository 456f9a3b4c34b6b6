-- `strict::serve` meets its contract: each turn leaves what can go on. Assumes nothing.
use Rattle.std.proofs.Common.{sym, subst}
use Rattle.lines.specs.Lines.{LineIn}
use Rattle.lines.proofs.Cases.{last_in_lem}
use Rattle.strict.proofs.serve.Goals as goal

pub write_next-requires : goal.write_next-requires
write_next-requires c =
    let g = c.turns.invariant.0 in
    (subst (LineIn _) (sym c.last_line.ensures) (last_in_lem _ _ g.lines), g.input_long, g.strict_long)
