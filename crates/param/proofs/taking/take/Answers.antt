-- `take` meets its contract: with i events taken they are sound, and wait in the slots. Assumes nothing.
use mathlib.Core.Path.{◌≡◌, refl, sym, ap, ◌∙◌}
use Prim.Native.Nat.{◌+◌, ◌≤◌, ◌<◌, ◌-◌}
use native.Mathlib.Omega.{arith}
use mathlib.Core.Bool.{true, ◌&&◌}
use mathlib.Core.List.{◌∷◌, [], ◌++◌}
use lib.Dec.{leb}
use lib.ListN.{length, take, get_or, length-take}
use lib.Ieee as Ieee
use borrow.Author.Tests.{leb-true}
use lib.Ieee.{of_bits, nan_bits}
use Rattle.rules.specs.declared.Event.{Event}
use Rattle.rules.specs.Numbers.{most_events, store_length}
use Rattle.laws.proofs.Tests.{both}
use Rattle.timeline.specs.Timeline.{slot_of, waiting}
use Rattle.timeline.proofs.Laws.{nothing, in_use, in_slot, one_more}
use Rattle.param.proofs.Parts.{took_none, takes_more, takes_not, took_all, all_taken}
use Rattle.param.proofs.taking.take.Goals as goal
use Rattle.param.proofs.taking.take.Goals.{Else-not-fits, In-loop-i}

module _ (c : In-loop-i) where
  -- the event of a turn is the next
  next : take (c.loop-i.i + 1) (waiting c.args.q) ≡ take c.loop-i.i (waiting c.args.q) ++ ((get_or (take c.args.q.len c.args.q.slots) c.loop-i.i (slot_of nothing)).event ∷ [])
  next =
      one_more (waiting c.args.q) c.loop-i.i (omega (arith, c.loop-i-test.true, in_use c.args.q))
      ∙ ap (λ (e : Event). take c.loop-i.i (waiting c.args.q) ++ (e ∷ [])) (sym (in_slot c.args.q c.loop-i.i))

  few : c.loop-i.i < most_events
  few = omega (arith, c.loop-i-test.true, length-take c.args.q.len c.args.q.slots, c.requires)

fitted : (c : Else-not-fits)
    → (Ieee.le c.loop-i.before c.filed_under-time.result && (c.is_clear-clear.result && c.is_due.result && leb c.length_of-size.result (store_length - c.loop-i.used))) ≡ true
fitted c = c.if-not-fits.false

room : (c : Else-not-fits) → c.length_of-size.result ≤ store_length - c.loop-i.used
room c = leb-true _ _ (both (c.is_clear-clear.result && c.is_due.result) _ (both (Ieee.le _ _) _ (fitted c)).1).1

pub loop-i-init : goal.loop-i-init
unfolding of_bits
loop-i-init c = took_none (waiting c.args.q) c.args.played c.new.ensures

pub overflow_sub-fits : goal.overflow_sub-fits
overflow_sub-fits c = omega (arith, c.loop-i.invariant.many, c.loop-i.invariant.sound.room)

pub returns-then-not-fits : goal.returns-then-not-fits
returns-then-not-fits c =
    let k = (goal.at.returns-then-not-fits c).In-loop-i in
    rw (
    ← takes_not c.loop-i.invariant _ (next k) (few k) c.filed_under-time.ensures c.is_clear-clear.ensures c.is_due.ensures c.length_of-size.ensures (c.if-not-fits.true)
    )

pub overflow_add-used : goal.overflow_add-used
overflow_add-used c = record { fits = omega (arith, c.loop-i.invariant.many, c.loop-i.invariant.sound.room, room (goal.at.overflow_add-used c).Else-not-fits) }

pub loop-i-preserved : goal.loop-i-preserved
loop-i-preserved c =
    let k = (goal.at.loop-i-preserved c).In-loop-i in
    takes_more c.loop-i.invariant _ (next k) (few k) c.filed_under-time.ensures c.is_clear-clear.ensures c.is_due.ensures c.length_of-size.ensures (fitted (goal.at.loop-i-preserved c).Else-not-fits) c.reach_of-reach.ensures refl

pub returns : goal.returns
returns c =
    let q = c.args.q in
    let l = c.loop-i in
    let many : length (waiting q) ≤ l.i = omega (arith, c.loop-i-test.false, in_use q) in
    all_taken q c.args.played (took_all l.invariant (omega (arith, c.loop-i-test.false, l.auto.i-end, length-take q.len q.slots)) many)
