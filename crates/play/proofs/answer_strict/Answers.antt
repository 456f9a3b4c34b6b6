-- `play::answer_strict` meets its contract: the answer of the session language, told for a person. Assumes nothing.
use Rattle.std.proofs.Common.{refl, sym, arith, ◌-◌}
use native.Mathlib.Nat.{le_of_lt}
use lib.Seq.{length-take-le}
use Rattle.play.proofs.Turns.{long, for_a_person, within, room_for, nearby, room_left}
use Rattle.play.proofs.answer_strict.Goals as goal

pub answer_line-r-requires : goal.answer_line-r-requires
answer_line-r-requires c =
    let a = c.requires in
    let k = c.clash_in-clash.auto in
    (a.0, omega (arith, a.1, k.numbers), omega (arith, k.file), a.2, omega (arith, a.3))

pub overflow_sub-end : goal.overflow_sub-end
overflow_sub-end c =
    omega (arith, long _ c.answer_line-r.ensures)

pub slice_bounds-put_told-end : goal.slice_bounds-put_told-end
slice_bounds-put_told-end c =
    within _ _ _ c.answer_line-r.ensures.room c.requires.3 c.answer_line-r.auto.out

pub put_told-to-requires : goal.put_told-to-requires
put_told-to-requires c =
    let r = c.answer_line-r in
    room_for _ _ _ _ (length-take-le _ _ (within _ _ _ r.ensures.room c.requires.3 r.auto.out)) r.ensures.room c.requires.4

pub put_byte-next-requires : goal.put_byte-next-requires
put_byte-next-requires c =
    let r = c.answer_line-r in
    let len = length-take-le (r.result.next - 1) r.new.out (within _ _ _ r.ensures.room c.requires.3 r.auto.out) in
    room_left _ _ _ _ (nearby _ _ _ _ len r.ensures.room c.put_told-to.ensures.upper_bound) c.requires.4 (sym c.put_told-to.auto.out)

pub returns : goal.returns
returns c =
    let r = c.answer_line-r in
    let a = r.ensures in
    let t = c.put_told-to.ensures in
    let len = length-take-le (r.result.next - 1) r.new.out (within _ _ _ a.room c.requires.3 r.auto.out) in
    let near = nearby _ _ _ _ len a.room t.upper_bound in
    for_a_person _ a _ c.clash_in-clash.ensures t.put (le_of_lt (room_left _ _ _ _ near c.requires.4 refl)) c.put_byte-next.ensures (omega (arith, near, c.put_byte-next.ensures.place))
