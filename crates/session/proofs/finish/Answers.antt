-- `session::finish` meets its contract: its last answer lies in the buffer. Assumes nothing.
use Rattle.std.proofs.Common.{sym, subst, arith}
use Rattle.lines.specs.Lines.{LineIn}
use Rattle.lines.proofs.Cases.{last_in_lem}
use Rattle.session.proofs.finish.Goals as goal

pub answer_next-r-requires : goal.answer_next-r-requires
answer_next-r-requires c =
    let g = c.requires in
    (g.desk, subst (LineIn _) (sym c.last_line-line.ensures) (last_in_lem _ _ g.lines), g.lent, g.lent.out_long)

pub slice_bounds-write_all-end : goal.slice_bounds-write_all-end
slice_bounds-write_all-end c =
    let r = c.answer_next-r in
    omega (arith, r.ensures.room, r.auto.out, c.requires.lent.out_long)
