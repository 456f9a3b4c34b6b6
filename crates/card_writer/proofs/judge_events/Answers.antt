-- `judge_events` meets its contract: at each turn the events before the place are looked at. Assumes nothing.
use mathlib.Core.Path.{refl, sym, ◌∙◌}
use Prim.Native.Nat.{◌≤◌}
use native.Mathlib.Omega.{arith}
use lib.ListN.{length}
use Rattle.rules.specs.Queue.{lengths_of, attached}
use Rattle.timeline.specs.Timeline.{waiting}
use Rattle.param.specs.Param.{param_of}
use Rattle.card.specs.Card.{file_of}
use Rattle.card.proofs.Bound.{written_bound}
use Rattle.card.specs.Back.{most_bytes}
use Rattle.card_writer.proofs.Turns.{Walked, walked, Turn, turn, over}
use Rattle.card_writer.proofs.Judging.{looked_none, looked_all, looked_not, looked_few, looked_more}
use Rattle.card_writer.proofs.judge_events.Goals as goal
use Rattle.card_writer.proofs.judge_events.Goals.{After-length_of, At-loop-i}

-- what is known at each turn
queue : (c : At-loop-i) → Walked c.args.p c.timeline-q.result
queue c = walked c.requires.0 c.timeline-q.ensures

most : (c : At-loop-i) → length (file_of (param_of c.args.p).bounds (attached (waiting c.timeline-q.result) c.args.store.now)) ≤ most_bytes
most c = rw (queue c).same (written_bound (param_of c.args.p) c.args.store.now c.requires.0.sound c.requires.1)

event : (c : After-length_of) → Turn c.timeline-q.result c.args.store.now c.loop-i.i c.loop-i.from c.length_of.result
event c = turn (walked c.requires.0 c.timeline-q.ensures) _ _ c.loop-i-test.true c.loop-i.invariant.1 c.length_of.ensures

pub loop-i-init : goal.loop-i-init
unfolding lengths_of
loop-i-init c = (omega arith, refl, looked_none _)

pub offset_bounds-q-i : goal.offset_bounds-q-i
offset_bounds-q-i c = omega (arith, (queue (goal.at.offset_bounds-q-i c).At-loop-i).neat.few)

pub bounds-q-i : goal.bounds-q-i
bounds-q-i c = omega (arith, (queue (goal.at.bounds-q-i c).At-loop-i).neat.few)

pub overflow_add-to : goal.overflow_add-to
overflow_add-to c = omega (arith, (event c).room)

pub offset_bounds-store-from : goal.offset_bounds-store-from
offset_bounds-store-from c = omega (arith, (event c).room)

pub slice_bounds-numbers-count : goal.slice_bounds-numbers-count
slice_bounds-numbers-count c = omega arith

pub slice_bounds-numbers-start : goal.slice_bounds-numbers-start
slice_bounds-numbers-start c = omega arith

pub slice_bounds-numbers-end : goal.slice_bounds-numbers-end
slice_bounds-numbers-end c = omega (arith, (event c).room, c.requires.1)

pub returns-then-is_unwritable : goal.returns-then-is_unwritable
returns-then-is_unwritable c =
    rw (← (queue (goal.at.returns-then-is_unwritable c).At-loop-i).same) (looked_not c.loop-i.invariant.2 (event (goal.at.returns-then-is_unwritable c).After-length_of).here _ (sym c.is_unwritable.ensures ∙ c.if-is_unwritable.true))

pub field_length-many-requires : goal.field_length-many-requires
field_length-many-requires c = (event (goal.at.field_length-many-requires c).After-length_of).few

pub overflow_add-many : goal.overflow_add-many
overflow_add-many c = omega (arith, looked_few c.loop-i.invariant.2 (event (goal.at.overflow_add-many c).After-length_of).here (param_of c.args.p).bounds, most (goal.at.overflow_add-many c).At-loop-i, c.field_length-many.ensures)

pub loop-i-preserved : goal.loop-i-preserved
loop-i-preserved c =
    let t = event (goal.at.loop-i-preserved c).After-length_of in
    (omega arith, t.past, looked_more c.loop-i.invariant.2 t.here (sym c.is_unwritable.ensures ∙ c.if-is_unwritable.false) c.field_length-many.ensures)

pub returns : goal.returns
returns c = rw (← (queue (goal.at.returns c).At-loop-i).same) (looked_all c.loop-i.invariant.2 _ (over (queue (goal.at.returns c).At-loop-i) _ _ c.loop-i-test.false))
