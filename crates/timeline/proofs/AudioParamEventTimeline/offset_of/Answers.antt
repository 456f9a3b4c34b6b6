-- `offset_of` meets its contract: the offset so far is the length of the events looked at. Assumes nothing.
use mathlib.Core.Path.{◌≡◌, refl, ap, ◌∙◌}
use Prim.Native.Nat.{ℕ, min, ◌+◌, ◌<◌, ◌≤◌}
use native.Mathlib.Omega.{arith}
use lib.ListN.{length, take, get_or, length-take}
use lib.Seq.{get_or-take}
use Rattle.std.proofs.lemmas.List.{take_min}
use Rattle.rules.specs.Queue.{length_of, lengths_of}
use Rattle.timeline.specs.declared.AudioParamEvent.{AudioParamEvent}
use Rattle.timeline.specs.Timeline.{slot_of, waiting}
use Rattle.timeline.proofs.Laws.{nothing, count, full, slot_holds, offset_more, offset_most}
use Rattle.timeline.proofs.AudioParamEventTimeline.offset_of.Goals as goal
use Rattle.timeline.proofs.AudioParamEventTimeline.offset_of.Goals.{After-length_of-offset}

-- the offset behind one event more
more : (c : After-length_of-offset) → c.loop-slot.offset + c.length_of-offset.result ≡ lengths_of (take (c.loop-slot.slot-index + 1) (waiting c.args.self))
more c =
    let q = c.args.self in
    let i : ℕ = c.loop-slot.slot-index in
    let k : i < c.min.result = omega (arith, c.loop-slot-test.true, length-take c.min.result q.slots) in
    let l : i < q.len = omega (arith, k, c.min.ensures) in
    let n : i < length (waiting q) = omega (arith, count q c.requires.0) in
    let s : get_or (take c.min.result q.slots) i (slot_of nothing) ≡ slot_of (get_or (waiting q) i nothing) = get_or-take c.min.result q.slots i (slot_of nothing) k ∙ slot_holds q c.requires.0 i l in
    let m : c.length_of-offset.result ≡ length_of (get_or (waiting q) i nothing) = c.length_of-offset.ensures ∙ ap (λ (x : AudioParamEvent). length_of x.event) s in
    omega (arith, c.loop-slot.invariant, m, offset_more (waiting q) i n)

pub loop-slot-init : goal.loop-slot-init
unfolding lengths_of
loop-slot-init c = refl

pub overflow_add-offset : goal.overflow_add-offset
overflow_add-offset c = record { fits = omega (arith, more (goal.at.overflow_add-offset c).After-length_of-offset, offset_most (waiting c.args.self) (c.loop-slot.slot-index + 1), c.requires.1) }

pub loop-slot-preserved : goal.loop-slot-preserved
loop-slot-preserved c = more (goal.at.loop-slot-preserved c).After-length_of-offset

pub returns : goal.returns
returns c =
    let q = c.args.self in
    let f : length q.slots ≡ 64 = full q c.requires.0 in
    let few : q.len ≤ 64 = c.requires.0.few in
    let n : length (waiting q) ≡ q.len = count q c.requires.0 in
    let e : c.loop-slot.slot-index ≡ min c.args.place (length (waiting q)) = omega (arith, c.loop-slot-test.false, c.loop-slot.auto.slot-index-end, length-take c.min.result q.slots, c.min.ensures) in
    c.loop-slot.invariant ∙ ap (λ (k : ℕ). lengths_of (take k (waiting q))) e ∙ ap lengths_of (take_min c.args.place (waiting q))
