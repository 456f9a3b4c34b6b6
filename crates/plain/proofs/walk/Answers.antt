-- `walk` meets its contract: the loop goes on as the rules' walk, head by head. Assumes nothing.
use mathlib.Core.Path.{◌≡◌, refl, sym, ap, ◌∙◌}
use mathlib.Core.List.{List}
use Prim.Native.Nat.{ℕ, ◌+◌, ◌≤◌, ◌<◌}
use native.Mathlib.Omega.{arith}
use lib.ListN.{length, take, drop, get_or}
use lib.Ieee.{Float}
use Rattle.std.proofs.Common.{Some}
use Rattle.rules.specs.declared.BlockInfos.{BlockInfos}
use Rattle.rules.specs.declared.Event.{Event}
use Rattle.rules.specs.Queue.{length_of, lengths_of}
use Rattle.rules.specs.Walk.{Walk}
use Rattle.timeline.specs.declared.AudioParamEventTimeline.{AudioParamEventTimeline}
use Rattle.timeline.specs.Timeline.{slot_of, waiting, first_of}
use Rattle.timeline.proofs.Heads.{past_most, lent_is, numbered}
use Rattle.timeline.proofs.Laws.{nothing, count, neat_of, waits_of, in_slot, in_use}
use Rattle.timeline.proofs.Steps.{none_there, one_there}
use Rattle.param.specs.Param.{param_of}
use Rattle.plain.specs.Seen.{unwalked}
use Rattle.plain.proofs.Sees.{counted_is}
use Rattle.plain.proofs.Looking.{begins, few_steps, same_infos, none_left, head_stops, head_goes}
use Rattle.plain.proofs.walk.Goals as goal
use Rattle.plain.proofs.walk.Goals.{At-loop-at, In-loop-at}

-- ---- the loop, at l

module _ (l : At-loop-at) where
  abbrev f : BlockInfos
  f = l.args.begun.infos

  abbrev es : List Event
  es = (param_of l.args.param).queue

  abbrev store : List Float
  store = l.args.store.now

  abbrev n : ℕ
  n = l.args.begun.place

  abbrev first : Walk
  first = unwalked l.args.begun

  abbrev q : AudioParamEventTimeline
  q = l.timeline-waiting.result

  few : length es ≤ 64
  few = l.requires.0.param.sound.waiting.few

  room : lengths_of es ≤ length store
  room = l.requires.0.room

  steps_few : l.loop-at.look.steps ≤ 128
  steps_few = omega (arith, few_steps f es store n first l.loop-at.invariant, l.loop-at.invariant.few, few)

  waits : waiting q ≡ es
  waits = waits_of q es l.timeline-waiting.ensures

  many : q.len ≡ length es
  many = sym (count q (neat_of q es l.timeline-waiting.ensures few)) ∙ ap length waits

-- ---- a head, at m

module _ (m : In-loop-at) where
  abbrev queue : List Event
  queue = (param_of m.args.param).queue

  abbrev slots : AudioParamEventTimeline
  slots = m.timeline-waiting.result

  abbrev event : Event
  event = (get_or (take slots.len slots.slots) m.loop-at.at (slot_of nothing)).event

  queued : waiting slots ≡ queue
  queued = waits_of slots queue m.timeline-waiting.ensures

  inside : m.loop-at.at < length queue
  inside = omega (arith, m.loop-at-test.true, in_use slots, ap length queued)

  there : first_of (drop m.loop-at.at queue) ≡ Some event
  there =
      sym (one_there queue m.loop-at.at inside)
      ∙ ap (λ (es : List Event). Some (get_or es m.loop-at.at nothing)) (sym queued)
      ∙ ap (λ (e : Event). Some e) (sym (in_slot slots m.loop-at.at))

  most : lengths_of queue ≤ 4096
  most = m.requires.0.param.sound.waiting.room

  -- its numbers
  past : {offset k : ℕ} → offset ≡ lengths_of (take m.loop-at.at queue) → k ≡ length_of event → offset + k ≤ lengths_of queue
  past from size = omega (arith, size, past_most queue m.args.store.now m.loop-at.at from there)

pub loop-at-init : goal.loop-at-init
loop-at-init c = begins c.args.begun.infos (param_of c.args.param).queue c.args.store.now c.args.begun.place (unwalked c.args.begun) c.requires.2 refl

pub overflow_add-to : goal.overflow_add-to
overflow_add-to c =
    let m = (goal.at.overflow_add-to c).In-loop-at in
    record { fits = omega (arith, past m c.offset_of-from.ensures c.length_of.ensures, most m) }

pub counted-requires : goal.counted-requires
counted-requires c = omega (arith, steps_few (goal.at.counted-requires c).At-loop-at)

pub offset_bounds-store-from : goal.offset_bounds-store-from
offset_bounds-store-from c =
    let m = (goal.at.offset_bounds-store-from c).In-loop-at in
    record { fits = omega (arith, past m c.offset_of-from.ensures c.length_of.ensures, most m) }

pub slice_bounds-take_head-end : goal.slice_bounds-take_head-end
slice_bounds-take_head-end c =
    let m = (goal.at.slice_bounds-take_head-end c).In-loop-at in
    omega (arith, past m c.offset_of-from.ensures c.length_of.ensures, c.requires.0.room)

pub take_head-turn-requires : goal.take_head-turn-requires
take_head-turn-requires c =
    let l = (goal.at.take_head-turn-requires c).At-loop-at in
    let m = (goal.at.take_head-turn-requires c).In-loop-at in
    rw c.counted.ensures (
      rw (same_infos (f l) (es l) (store l) (n l) (first l) c.loop-at.invariant) c.requires.0.few,
      omega (arith, steps_few l),
      rw (lent_is (store l) c.offset_of-from.result (event m) c.length_of.ensures) (numbered (es l) (store l) c.loop-at.at c.offset_of-from.ensures (there m) c.requires.0.param.sound.waiting (room l)),
    )

pub returns-in-Stop : goal.returns-in-Stop
returns-in-Stop c =
    let l = (goal.at.returns-in-Stop c).At-loop-at in
    let m = (goal.at.returns-in-Stop c).In-loop-at in
    let inv = c.loop-at.invariant in
    rw c.ended.ensures
    (head_stops (f l) (es l) (store l) (n l) (first l) inv (there m) c.offset_of-from.ensures c.length_of.ensures c.event_at-next.ensures (c.take_head-turn.ensures (f l) (n l) _ (c.counted.ensures ∙ counted_is (f l) (n l) inv.walk inv.is)) c.requires.1 c.requires.0.param.sound.waiting (room l) c.in-Stop.is)

pub loop-at-preserved : goal.loop-at-preserved
loop-at-preserved c =
    let l = (goal.at.loop-at-preserved c).At-loop-at in
    let m = (goal.at.loop-at-preserved c).In-loop-at in
    let inv = c.loop-at.invariant in
    head_goes (f l) (es l) (store l) (n l) (first l) inv (there m) c.offset_of-from.ensures c.length_of.ensures c.event_at-next.ensures (c.take_head-turn.ensures (f l) (n l) _ (c.counted.ensures ∙ counted_is (f l) (n l) inv.walk inv.is)) c.in-On.is

pub counted-requires-2 : goal.counted-requires-2
counted-requires-2 c = omega (arith, steps_few (goal.at.counted-requires-2 c).At-loop-at)

pub returns : goal.returns
returns c =
    let l = (goal.at.returns c).At-loop-at in
    let at = c.loop-at.at in
    let same : at ≡ (q l).len = omega (arith, c.loop-at-test.false, c.loop-at.auto.at-end, in_use (q l), ap length (waits l), many l) in
    rw (c.ended-2.ensures, c.counted-2.ensures, ← same)
    (none_left (f l) (es l) (store l) (n l) (first l) c.loop-at.invariant c.requires.1 (sym (none_there (es l) at (omega (arith, same, many l)))))
