-- `desk::answer` meets its contract: what each call ensures. Assumes nothing.
use mathlib.Core.Path.{refl, sym, subst}
use Prim.Native.Nat.{ℕ, ◌<◌}
use native.Mathlib.Omega.{arith}
use lib.Seq.{length-take-le}
use Rattle.text.proofs.Writing.{put-nothing}
use Rattle.desk.specs.Desk.{InRange, answer_of}
use Rattle.desk.proofs.Turns.{said, by_call, ranged, is_scheduling-others}
use Rattle.desk.proofs.answer.Goals as goal

pub slice_bounds-block-end : goal.slice_bounds-block-end
unfolding InRange
slice_bounds-block-end c =
    let h = ranged c.in-Block.is c.requires.1 in
    sym (length-take-le c.in-Block.input c.args.numbers.now (omega (arith, h.1, c.requires.2)))

pub block-requires : goal.block-requires
unfolding InRange
block-requires c =
    let a = c.requires in
    (a.0, (ranged c.in-Block.is a.1).0, a.4, a.5)

pub lend-requires : goal.lend-requires
unfolding InRange
lend-requires c =
    let a = c.requires in
    (a.0, ranged c.in-Lend.is a.1, a.5)

pub poke-requires : goal.poke-requires
unfolding InRange
poke-requires c =
    let a = c.requires in
    (a.0, subst (λ (k : ℕ). c.in-Poke.place < k) (sym a.4) (ranged c.in-Poke.is a.1), a.5)

pub slice_bounds-load-end : goal.slice_bounds-load-end
unfolding InRange
slice_bounds-load-end c = let a = c.requires in omega (arith, (ranged c.in-Load.is a.1).2, a.3)

pub slice_bounds-load-end-in-Load : goal.slice_bounds-load-end-in-Load
unfolding InRange
slice_bounds-load-end-in-Load c =
    let h = ranged c.in-Load.is c.requires.1 in
    sym (length-take-le c.in-Load.len c.args.file.now (omega (arith, h.2, c.requires.3)))

pub load-requires : goal.load-requires
unfolding InRange
load-requires c =
    let a = c.requires in
    let h = ranged c.in-Load.is a.1 in
    (a.0, h.0, h.1, a.4, a.5)

pub answer_scheduling-requires : goal.answer_scheduling-requires
answer_scheduling-requires c =
    (c.requires.0, c.requires.1, is_scheduling-others c.args.call c.in_default.not-Nothing c.in_default.not-Make c.in_default.not-Block c.in_default.not-Lend c.in_default.not-Poke c.in_default.not-State c.in_default.not-Save c.in_default.not-Load, c.requires.2, c.requires.4, c.requires.5)

pub returns-in-Nothing : goal.returns-in-Nothing
unfolding answer_of
returns-in-Nothing c =
    by_call c.args.numbers.now c.args.file.now c.in-Nothing.is (said _ _ _ c.args.desk.lent _ _ c.requires.0 refl c.requires.0.lent refl (put-nothing _ _) (omega arith))

pub returns-in-Make : goal.returns-in-Make
unfolding answer_of
returns-in-Make c = let a = c.args in by_call a.numbers.now a.file.now c.in-Make.is (c.make.ensures a.desk)

pub returns-in-Block : goal.returns-in-Block
unfolding answer_of
returns-in-Block c = let a = c.args in by_call a.numbers.now a.file.now c.in-Block.is c.block.ensures

pub returns-in-Lend : goal.returns-in-Lend
unfolding answer_of
returns-in-Lend c = let a = c.args in by_call a.numbers.now a.file.now c.in-Lend.is (c.lend.ensures a.store.now)

pub returns-in-Poke : goal.returns-in-Poke
unfolding answer_of
returns-in-Poke c = let a = c.args in by_call a.numbers.now a.file.now c.in-Poke.is c.poke.ensures

pub returns-in-State : goal.returns-in-State
unfolding answer_of
returns-in-State c = let a = c.args in by_call a.numbers.now a.file.now c.in-State.is c.state.ensures

pub returns-in-Save : goal.returns-in-Save
unfolding answer_of
returns-in-Save c = let a = c.args in by_call a.numbers.now a.file.now c.in-Save.is c.save.ensures

pub returns-in-Load : goal.returns-in-Load
unfolding answer_of
returns-in-Load c = let a = c.args in by_call a.numbers.now a.file.now c.in-Load.is c.load.ensures

pub returns-in_default : goal.returns-in_default
returns-in_default c = c.answer_scheduling.ensures c.args.file.now
