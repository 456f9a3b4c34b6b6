-- `put_events` meets its contract. The invariant of its loop: with the events left written behind, all are. Assumes nothing.
use mathlib.Core.Path.{refl}
use Prim.Native.Nat.{◌+◌, ◌≤◌}
use native.Mathlib.Omega.{arith}
use lib.ListN.{length}
use Rattle.rules.specs.Queue.{lengths_of, attached}
use Rattle.timeline.specs.Timeline.{waiting}
use Rattle.card.specs.Card.{fields_of}
use Rattle.card_writer.proofs.Parts.{leaves_fewer, leaves_none, fields-next, fields-length, fields-over}
use Rattle.card_writer.proofs.Turns.{Walked, walked, Turn, turn, over}
use Rattle.card_writer.proofs.put_events.Goals as goal
use Rattle.card_writer.proofs.put_events.Goals.{After-length_of, At-loop-i}

-- what is known at each turn
queue : (c : At-loop-i) → Walked c.args.p c.timeline-q.result
queue c = walked c.requires.0 c.timeline-q.ensures

room : (c : At-loop-i) → c.args.at + length (fields_of (attached (waiting c.timeline-q.result) c.args.store.now)) ≤ length c.args.out.now
room c = rw (queue c).same c.requires.2

event : (c : After-length_of) → Turn c.timeline-q.result c.args.store.now c.loop-i.i c.loop-i.from c.length_of.result
event c = turn (walked c.requires.0 c.timeline-q.ensures) _ _ c.loop-i-test.true c.loop-i.invariant.1 c.length_of.ensures

pub loop-i-init : goal.loop-i-init
unfolding lengths_of
loop-i-init c = (omega arith, refl, refl, refl, λ after r q. q)

pub offset_bounds-q-i : goal.offset_bounds-q-i
offset_bounds-q-i c = omega (arith, (queue (goal.at.offset_bounds-q-i c).At-loop-i).neat.few)

pub bounds-q-i : goal.bounds-q-i
bounds-q-i c = omega (arith, (queue (goal.at.bounds-q-i c).At-loop-i).neat.few)

pub overflow_add-to : goal.overflow_add-to
overflow_add-to c = omega (arith, (event c).room)

pub offset_bounds-store-from : goal.offset_bounds-store-from
offset_bounds-store-from c = omega (arith, (event (goal.at.offset_bounds-store-from c).After-length_of).room, c.requires.1)

pub slice_bounds-put_event-count : goal.slice_bounds-put_event-count
slice_bounds-put_event-count c = omega arith

pub slice_bounds-put_event-start : goal.slice_bounds-put_event-start
slice_bounds-put_event-start c = omega arith

pub slice_bounds-put_event-end : goal.slice_bounds-put_event-end
slice_bounds-put_event-end c = omega (arith, (event (goal.at.slice_bounds-put_event-end c).After-length_of).room, c.requires.1)

pub put_event-next-requires : goal.put_event-next-requires
put_event-next-requires c = omega (arith, room (goal.at.put_event-next-requires c).At-loop-i, c.loop-i.invariant.2, c.loop-i.invariant.3, fields-length (event (goal.at.put_event-next-requires c).After-length_of).here)

pub loop-i-preserved : goal.loop-i-preserved
loop-i-preserved c =
    let t = event (goal.at.loop-i-preserved c).After-length_of in
    let l = c.loop-i in
    let put = c.put_event-next.ensures in
    let long = fields-length t.here in
    (omega arith, t.past, omega (arith, l.invariant.2), omega (arith, l.invariant.3, put.place), leaves_fewer l.invariant.4 (fields-next t.here) put (omega (arith, room (goal.at.loop-i-preserved c).At-loop-i, l.invariant.2, l.invariant.3, put.place)))

pub returns : goal.returns
returns c = rw (← (queue (goal.at.returns c).At-loop-i).same) (leaves_none c.loop-i.invariant.4 (fields-over (over (queue (goal.at.returns c).At-loop-i) _ _ c.loop-i-test.false)))
