-- `play::answer_plain` meets its contract: by the line's translation into the session language. Assumes nothing.
use Rattle.wording.proofs.Steps.{wrote_to, wrote_unread, room_to, written_is}
use Rattle.play.proofs.Turns.{no_translation, a_translation, spoken-same}
use Rattle.std.proofs.Common.{arith, sym}
use lib.Seq.{length-take-le}
use Rattle.play.proofs.answer_plain.Goals as goal

pub returns-in_default : goal.returns-in_default
returns-in_default c =
    spoken-same (no_translation _ _ (wrote_unread _ _ _ _ c.in_default.ensures.0)) (c.answer_not_read.ensures _)

pub slice_bounds-answer_read-end : goal.slice_bounds-answer_read-end
slice_bounds-answer_read-end c =
    omega (arith, room_to _ _ c.in-Some.ensures.1, c.translate.auto.out)

pub slice_bounds-answer_read-end-2 : goal.slice_bounds-answer_read-end-2
slice_bounds-answer_read-end-2 c =
    sym (length-take-le _ _ (omega (arith, room_to _ _ c.in-Some.ensures.1, c.translate.auto.out)))

pub returns : goal.returns
returns c =
    let v = wrote_to _ c.in-Some.ensures.0 in
    spoken-same (a_translation _ _ v.1 (written_is v.2 (room_to _ _ c.in-Some.ensures.1))) c.answer_read.ensures
