-- `encode` meets its contract: at each turn the first i events are written, and give themselves back. Assumes nothing.
use mathlib.Core.Path.{◌≡◌, refl, ap, ◌∙◌}
use Prim.Native.Nat.{◌+◌, ◌≤◌}
use native.Mathlib.Omega.{arith}
use lib.ListN.{length}
use Rattle.timeline.specs.Timeline.{Neat, waiting}
use Rattle.timeline.proofs.Laws.{neat_of, waits_of, count, full}
use Rattle.param.specs.Param.{param_of}
use Rattle.param.proofs.Parts.{slot_next}
use Rattle.coding.specs.Coding.{state_length, place_of}
use Rattle.coding.proofs.Written.{Wrote, wrote_none, wrote_more, long_more, head_length, written, given_back}
use Rattle.coding.proofs.encode.Goals as goal
use Rattle.coding.proofs.encode.Goals.{At-loop-i}

-- what is known at each turn: the state is long enough, and the queue is neat
started : (c : At-loop-i) → length c.put_head.new.state ≡ state_length
started c = head_length c.put_head.ensures c.requires.1

long : (c : At-loop-i) → length c.loop-i.state ≡ state_length
long c = c.loop-i.invariant.1 ∙ started c

neat : (c : At-loop-i) → Neat c.timeline-q.result
neat c = neat_of c.timeline-q.result (param_of c.args.p).queue c.timeline-q.ensures c.requires.0.sound.waiting.few

pub put_head-requires : goal.put_head-requires
put_head-requires c = c.requires

pub loop-i-init : goal.loop-i-init
loop-i-init c = (omega arith, refl, wrote_none _ _)

pub offset_bounds-q-i : goal.offset_bounds-q-i
offset_bounds-q-i c = omega (arith, (neat (goal.at.offset_bounds-q-i c).At-loop-i).few)

pub bounds-q-i : goal.bounds-q-i
bounds-q-i c = omega (arith, (neat (goal.at.bounds-q-i c).At-loop-i).few)

pub overflow_mul-i : goal.overflow_mul-i
overflow_mul-i c = omega (arith, (neat (goal.at.overflow_mul-i c).At-loop-i).few)

pub overflow_add-i : goal.overflow_add-i
overflow_add-i c = omega (arith, (neat (goal.at.overflow_add-i c).At-loop-i).few)

pub put_event-requires : goal.put_event-requires
put_event-requires c = omega (arith, long (goal.at.put_event-requires c).At-loop-i, (neat (goal.at.put_event-requires c).At-loop-i).few)

pub loop-i-preserved : goal.loop-i-preserved
loop-i-preserved c =
    let here = (goal.at.loop-i-preserved c).At-loop-i in
    let l = c.loop-i in
    let q = c.timeline-q.result in
    let n = neat here in
    let room : place_of l.i + 6 ≤ length l.state = omega (arith, long here, n.few) in
    let few : l.i ≤ length (waiting q) = omega (arith, count q n) in
    let put = c.put_event.ensures in
    let next = slot_next q l.i (full q n) (omega arith) n.few in
    (omega arith, long_more l.invariant.2 few (started here) _ put room ∙ l.invariant.1, wrote_more l.invariant.2 few (started here) _ next put)

pub shape_of-state : goal.shape_of-state
shape_of-state c = omega (arith, long (goal.at.shape_of-state c).At-loop-i, c.requires.1)

pub returns : goal.returns
returns c =
    let l = c.loop-i in
    let q = c.timeline-q.result in
    let p = param_of c.args.p in
    let same : waiting q ≡ p.queue = waits_of q p.queue c.timeline-q.ensures in
    let w : Wrote p.queue _ l.i l.state = rw same at l.invariant.2 in
    let all : l.i ≡ length p.queue = omega (arith, count q (neat (goal.at.returns c).At-loop-i), ap length same) in
    let head = c.put_head.ensures in
    record { is = written p w all head; back = given_back p w all head }
