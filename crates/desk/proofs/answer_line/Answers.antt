-- `desk::answer_line` meets its contract: the call that was read, and its newline. Assumes nothing.
use mathlib.Core.Path.{subst}
use native.Mathlib.Omega.{arith}
use Rattle.desk.specs.Desk.{Table, Turn, Spoken, with_newline, line_turn}
use Rattle.desk.proofs.Turns.{newline}
use Rattle.desk.proofs.Ranges.{heard_in_range, heard-turn, unheard-turn}
use Rattle.desk.proofs.answer_line.Goals as goal

pub answer-r-requires : goal.answer-r-requires
answer-r-requires c =
    let a = c.requires in
    let k = c.read_call in
    (a.0, heard_in_range _ _ _ _ c.in-Some.ensures, omega (arith, a.1, k.auto.numbers), omega (arith, a.2, k.auto.file), a.3, a.4)

pub returns-in_default : goal.returns-in_default
unfolding line_turn
returns-in_default c =
    let a = c.args in
    subst (λ (turn : Table → Turn). Spoken 42000 (with_newline turn) a.desk a.store.now a.out.now a.at c.answer_long.result a.store.now c.answer_long.new.out) (unheard-turn _ _ _ c.in_default.ensures) (c.answer_long.ensures _)

pub put_byte-requires : goal.put_byte-requires
put_byte-requires c = omega (arith, c.requires.4, c.answer-r.ensures.room, c.answer-r.auto.out)

pub returns : goal.returns
unfolding line_turn
returns c = newline (heard-turn _ _ _ _ c.in-Some.ensures) c.answer-r.ensures c.put_byte.ensures c.requires.4
