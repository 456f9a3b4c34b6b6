-- `play::answer_next` meets its contract: by the kind of line. Assumes nothing.
use Rattle.std.proofs.Common.{[], ap, ◌∙◌, Some, arith}
use Rattle.wording.proofs.Steps.{part_length}
use Rattle.lines.proofs.Taking.{line_in}
use Rattle.play.proofs.Turns.{room_strict}
use Rattle.play.proofs.answer_next.Goals as goal

pub answer_plain-requires : goal.answer_plain-requires
answer_plain-requires c =
    let in_line = line_in _ (c.in-Some-At.is ∙ ap Some (rw c.in-Some-At.is at c.in-Some-At.field-0-is)) c.requires.1 in
    let lent = c.requires.2 in
    let long = part_length c.args.input.now c.in-Some-At.from c.in-Some-At.to in_line.1 in
    (c.requires.0, room_strict _ _ _ _ _ long in_line.1 lent.input_long lent.strict_long, lent.numbers_long, lent.store_long, lent.said_long, c.in_ok-at.ensures)

pub returns-in-Some-Long : goal.returns-in-Some-Long
returns-in-Some-Long c =
    let v = c.answer_not_read.ensures [] in
    (v.sound, omega (arith, v.room, c.in_ok-at.ensures))
