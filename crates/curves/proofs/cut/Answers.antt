-- `cut` meets its contract: what it leaves of the numbers of the events looked at is closed up. Assumes nothing.
use mathlib.Core.Path.{◌≡◌, sym, ap, ◌∙◌}
use Prim.Native.Nat.{◌+◌, ◌-◌, ◌≤◌, ◌<◌}
use native.Mathlib.Omega.{arith}
use lib.ListN.{length, get_or}
use Rattle.rules.specs.Queue.{length_of}
use Rattle.timeline.specs.Timeline.{stays, waiting}
use Rattle.timeline.proofs.Laws.{nothing, in_slot, in_use, offset_most}
use Rattle.curves.proofs.Cuts.{closed_none, closed_room, closed_skip, closed_take, closed_all}
use Rattle.curves.proofs.cut.Goals as goal
use Rattle.curves.proofs.cut.Goals.{After-length_of-size, After-is_kept, then-is_kept, else-is_kept}

module _ (c : After-length_of-size) where
  inside : c.loop-slot.slot-index < length (waiting c.args.q)
  inside = omega (arith, c.loop-slot-test.true, in_use c.args.q)

  size : c.length_of-size.result ≡ length_of (get_or (waiting c.args.q) c.loop-slot.slot-index nothing)
  size = c.length_of-size.ensures ∙ ap length_of (in_slot c.args.q c.loop-slot.slot-index)

  room : c.loop-slot.from + c.length_of-size.result ≤ length c.args.part.now
  room = closed_room c.args.equal c.args.c c.args.q c.args.part.now c.requires.1 c.loop-slot.part c.loop-slot.from c.loop-slot.to c.loop-slot.slot-index inside c.loop-slot.invariant c.length_of-size.result size

pub loop-slot-init : goal.loop-slot-init
loop-slot-init c = let a = c.args in closed_none a.equal a.c a.q a.part.now

pub copy_within-requires-clause-in_bounds : goal.copy_within-requires-clause-in_bounds
copy_within-requires-clause-in_bounds c = omega (arith, room (goal.at.copy_within-requires-clause-in_bounds c).After-length_of-size, c.loop-slot.invariant.long)

pub copy_within-requires-clause-dest_in_bounds : goal.copy_within-requires-clause-dest_in_bounds
copy_within-requires-clause-dest_in_bounds c =
    let s = c.loop-slot.invariant in
    omega (arith, room (goal.at.copy_within-requires-clause-dest_in_bounds c).After-length_of-size, s.long, s.behind)

pub overflow_add-from : goal.overflow_add-from
overflow_add-from c = record { fits = omega (arith, room (goal.at.overflow_add-from c).After-length_of-size, c.well_formed) }

pub overflow_add-to : goal.overflow_add-to
overflow_add-to c =
    let s = c.loop-slot.invariant in
    record { fits = omega (arith, room (goal.at.overflow_add-to c).After-length_of-size, s.behind, c.well_formed) }

pub overflow_add-from-in-loop-slot : goal.overflow_add-from-in-loop-slot
overflow_add-from-in-loop-slot c = record { fits = omega (arith, room (goal.at.overflow_add-from-in-loop-slot c).After-length_of-size, c.well_formed) }

pub loop-slot-preserved : goal.loop-slot-preserved
loop-slot-preserved c =
    let k = (goal.at.loop-slot-preserved c).After-length_of-size in
    let a = c.args in
    let l = c.loop-slot in
    let n = c.length_of-size in
    let e : l.from + n.result - l.from ≡ n.result = omega arith in
    let asked = c.is_kept.ensures ∙ ap (stays a.equal a.c) (in_slot a.q l.slot-index) in
    elim c.if-is_kept.branch [
      | then-is_kept w ↦
          let f = closed_take a.equal a.c a.q a.part.now c.requires.1 l.part l.from l.to l.slot-index (inside k) l.invariant n.result (size k) (sym w.if-is_kept.true ∙ asked) in
          rw (w.part-is ∙ w.copy_within.ensures.after, w.to-is, e) f
      | else-is_kept w ↦
          let f = closed_skip a.equal a.c a.q a.part.now c.requires.1 l.part l.from l.to l.slot-index (inside k) l.invariant n.result (size k) (sym w.if-is_kept.false ∙ asked) in
          rw (w.part-is, w.to-is) f
    ]

pub zero_behind-requires : goal.zero_behind-requires
zero_behind-requires c =
    let s = c.loop-slot.invariant in
    omega (arith, s.passed, s.behind, s.long, offset_most (waiting c.args.q) c.loop-slot.slot-index, c.requires.1)

pub returns : goal.returns
returns c =
    let a = c.args in
    let l = c.loop-slot in
    c.zero_behind.ensures
    ∙ closed_all a.equal a.c a.q a.part.now l.part l.from l.to l.slot-index l.invariant (omega (arith, c.loop-slot-test.false, in_use a.q))
