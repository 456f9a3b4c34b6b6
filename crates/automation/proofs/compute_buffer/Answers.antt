-- `compute_buffer` meets its contract: the loop goes on as the rules' walk, head by head. Assumes nothing.
use mathlib.Core.Path.{◌≡◌, refl, sym, ap, ◌∙◌}
use mathlib.Core.Bool.{true, false}
use mathlib.Core.List.{List, map}
use Prim.Native.Nat.{ℕ, ◌+◌, ◌<◌, ◌≤◌}
use native.Mathlib.Omega.{arith}
use lib.ListN.{length, drop, get_or, take, length-map, get_or-map}
use Rattle.std.proofs.Common.{rules, Option, Some, None}
use Rattle.std.specs.Option.{is_some, option_map}
use Rattle.std.specs.Slice.{IsItemAt}
use denote.Ref.{Bor}
use Rattle.rules.specs.declared.Event.{Event}
use Rattle.laws.proofs.Tests.{never}
use Rattle.timeline.specs.declared.AudioParamEvent.{AudioParamEvent}
use Rattle.timeline.specs.Timeline.{waiting, first_of, slot_of}
use Rattle.timeline.proofs.Laws.{nothing, in_use, in_slot}
use Rattle.timeline.proofs.Steps.{none_there, one_there}
use Rattle.automation.proofs.Heads.{begins, none_left, past_most, numbered, head_stops, head_goes, few_steps, few_turned, ready, end_room, walks}
use Rattle.automation.proofs.compute_buffer.Goals as goal
use Rattle.automation.proofs.compute_buffer.Goals.{After-map-next}

-- a slot that may be there
slot_got : (s : List AudioParamEvent) (i : ℕ) (r : Option (Bor AudioParamEvent)) → IsItemAt s i r
    → option_map (λ (x : Bor AudioParamEvent). x.now.event) r ≡ first_of (drop i (map (λ (x : AudioParamEvent). x.event) s))
slot_got s i None f = none_there _ i (rw length-map f.3)
slot_got s i (Some x) f =
    let h : i < length (map (λ (x : AudioParamEvent). x.event) s) = rw length-map f.3.0 in
    ap (λ (y : AudioParamEvent). Some y.event) (f.4 (omega arith) (slot_of nothing)) ∙ ap (λ (e : Event). Some e) (sym (get_or-map (λ (x : AudioParamEvent). x.event) s i (slot_of nothing))) ∙ one_there _ i h

-- where a walk stops, and where it goes on
stopped : (l : Option Event) → true ≡ is_some l → {P : Type 0} → ((x : Event) → l ≡ Some x → P) → P
stopped None e f = never (sym e)
stopped (Some x) e f = f x refl

not_stopped : (l : Option Event) → false ≡ is_some l → l ≡ None
not_stopped None e = refl
not_stopped (Some x) e = never e

module _ (c : After-map-next) where
  abbrev event : Event
  event = (get_or (take c.args.timeline.len c.args.timeline.slots) c.loop-at.at (slot_of nothing)).event

  inside : c.loop-at.at < length (waiting c.args.timeline)
  inside = omega (arith, c.loop-at-test.true, in_use c.args.timeline)

  -- the head
  there : first_of (drop c.loop-at.at (waiting c.args.timeline)) ≡ Some event
  there = sym (one_there (waiting c.args.timeline) c.loop-at.at inside) ∙ ap (λ (e : Event). Some e) (sym (in_slot c.args.timeline c.loop-at.at))

  -- what is behind it
  behind : c.map-next.result ≡ first_of (drop (c.loop-at.at + 1) (waiting c.args.timeline))
  behind =
      let m : c.map-next.result ≡ option_map (λ (x : Bor AudioParamEvent). x.now.event) c.get.result = search rules in
      m ∙ slot_got (take c.args.timeline.len c.args.timeline.slots) (c.loop-at.at + 1) c.get.result c.get.ensures.lookup

pub begin-walk-requires : goal.begin-walk-requires
begin-walk-requires c = c.requires.some

pub loop-at-init : goal.loop-at-init
loop-at-init c = begins c.begin-walk.ensures

pub take_head-turn-requires : goal.take_head-turn-requires
take_head-turn-requires c =
    let k = (goal.at.take_head-turn-requires c).After-map-next in
    let g = c.loop-at.invariant in
    let p = c.requires in (
      ready p g c.begin-walk.ensures.whole,
      few_steps p g,
      few_turned p g,
      omega (arith, past_most g (there k), p.lent),
      numbered g (there k) p.sound p.lent,
    )

pub end-requires : goal.end-requires
end-requires c =
    end_room c.requires c.take_head-turn.ensures.filled (c.take_head-turn.ensures.whole ∙ c.loop-at.invariant.whole ∙ c.begin-walk.ensures.whole)

pub returns-then-is_some : goal.returns-then-is_some
returns-then-is_some c =
    let k = (goal.at.returns-then-is_some c).After-map-next in
    walks c.begin-walk.ensures (stopped (c.take_head-turn.result.left) (c.if-is_some.ensures) (λ x e. head_stops c.loop-at.invariant (there k) (behind k) c.take_head-turn.ensures e c.end.ensures))

pub shape_of-buffer-then-is_some : goal.shape_of-buffer-then-is_some
shape_of-buffer-then-is_some c = c.end.ensures.whole ∙ c.take_head-turn.ensures.whole ∙ c.loop-at.invariant.whole ∙ c.begin-walk.ensures.whole

pub overflow_add-offset : goal.overflow_add-offset
overflow_add-offset c =
    let k = (goal.at.overflow_add-offset c).After-map-next in
    record { fits = omega (arith, c.length_of-offset.ensures, past_most c.loop-at.invariant (there k), c.requires.sound.room) }

pub loop-at-preserved : goal.loop-at-preserved
loop-at-preserved c =
    let k = (goal.at.loop-at-preserved c).After-map-next in
    head_goes c.loop-at.invariant (there k) (behind k) c.take_head-turn.ensures (not_stopped _ c.if-is_some.ensures) c.length_of-offset.ensures

pub counted-requires : goal.counted-requires
counted-requires c = omega (arith, few_steps c.requires c.loop-at.invariant)

pub end-requires-2 : goal.end-requires-2
end-requires-2 c =
    rw c.counted.ensures (end_room c.requires c.loop-at.invariant.filled (c.loop-at.invariant.whole ∙ c.begin-walk.ensures.whole))

pub returns : goal.returns
returns c =
    let q = c.args.timeline in
    let l = c.loop-at in
    let few : length (waiting q) ≤ l.at = omega (arith, c.loop-at-test.false, in_use q) in
    let same : l.at ≡ length (take q.len q.slots) = omega (arith, c.loop-at-test.false, l.auto.at-end) in
    walks c.begin-walk.ensures (none_left l.invariant (sym (none_there (waiting q) l.at few)) (rw (c.counted.ensures, ← same) at c.end-2.ensures))

pub shape_of-buffer : goal.shape_of-buffer
shape_of-buffer c = (returns c).whole
