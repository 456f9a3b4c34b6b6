-- `play::finish` meets its contract: its last answer lies in the buffer. Assumes nothing.
use Rattle.std.proofs.Common.{sym, subst, zero-le}
use Rattle.lines.specs.Lines.{LineIn}
use Rattle.lines.proofs.Cases.{last_in_lem}
use Rattle.play.proofs.finish.Goals as goal

pub answer_next-requires : goal.answer_next-requires
answer_next-requires c =
    let g = c.requires in
    (g.desk, subst (LineIn _) (sym c.last_line-line.ensures) (last_in_lem _ _ g.lines), g.lent, zero-le)
