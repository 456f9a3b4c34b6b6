-- `retain` meets its contract: what the cut leaves of the events looked at waits in a queue of its own. Assumes nothing.
use mathlib.Core.Path.{◌≡◌, sym, ap, ◌∙◌}
use mathlib.Core.Bool.{Bool}
use mathlib.Core.List.{[]}
use Prim.Native.Nat.{◌≤◌, ◌<◌}
use native.Mathlib.Omega.{arith}
use lib.ListN.{length, get_or}
use Rattle.rules.specs.Queue.{those}
use Rattle.timeline.specs.Timeline.{made, slot_of, stays, waiting}
use Rattle.timeline.proofs.Laws.{nothing, count, in_use, in_slot, filled_of, filled_more, filled-same, filled-made}
use Rattle.timeline.proofs.Steps.{kept_one, kept_none, kept-all}
use Rattle.timeline.proofs.AudioParamEventTimeline.retain.Goals as goal
use Rattle.timeline.proofs.AudioParamEventTimeline.retain.Goals.{After-is_kept, then-is_kept, else-is_kept}

pub loop-slot-init : goal.loop-slot-init
unfolding those
loop-slot-init c = let f = filled_of c.new-kept.result [] c.new-kept.ensures in (omega (arith, f.many), f)

module _ (c : After-is_kept) where
  inside : c.loop-slot.slot-index < length (waiting c.args.self)
  inside = omega (arith, c.loop-slot-test.true, in_use c.args.self)

  pub room : c.loop-slot.kept.len < 64
  room = let few : c.args.self.len ≤ 64 = c.requires.few in omega (arith, inside, count c.args.self c.requires, c.loop-slot.invariant.0)

  asked : {b : Bool} → c.is_kept.result ≡ b → stays c.args.equal c.args.c (get_or (waiting c.args.self) c.loop-slot.slot-index nothing) ≡ b
  asked f = ap (stays c.args.equal c.args.c) (sym (in_slot c.args.self c.loop-slot.slot-index)) ∙ sym c.is_kept.ensures ∙ f

pub offset_bounds-kept-kept : goal.offset_bounds-kept-kept
offset_bounds-kept-kept c = record { fits = omega (arith, room (goal.at.offset_bounds-kept-kept c).After-is_kept) }

pub bounds-kept-kept : goal.bounds-kept-kept
bounds-kept-kept c = room (goal.at.bounds-kept-kept c).After-is_kept

pub overflow_add-kept : goal.overflow_add-kept
overflow_add-kept c = record { fits = omega (arith, room (goal.at.overflow_add-kept c).After-is_kept) }

pub loop-slot-preserved : goal.loop-slot-preserved
loop-slot-preserved c =
    let k = (goal.at.loop-slot-preserved c).After-is_kept in
    let a = c.args in
    let l = c.loop-slot in
    let es = waiting a.self in
    let s = ap slot_of (in_slot a.self l.slot-index) in
    elim c.if-is_kept.branch [
      | then-is_kept w ↦
          let f = filled_more l.invariant.1 (room k) s (kept_one a.equal a.c es l.slot-index (inside k) (asked k w.if-is_kept.true)) in
          rw w.kept-is (omega arith, f)
      | else-is_kept w ↦
          let f = filled-same l.invariant.1 (kept_none a.equal a.c es l.slot-index (inside k) (asked k w.if-is_kept.false)) in
          rw w.kept-is (omega arith, f)
    ]

pub returns : goal.returns
returns c =
    let a = c.args in
    let l = c.loop-slot in
    filled-made l.invariant.1 ∙ ap made (kept-all a.equal a.c (waiting a.self) l.slot-index (omega (arith, c.loop-slot-test.false, in_use a.self)))
