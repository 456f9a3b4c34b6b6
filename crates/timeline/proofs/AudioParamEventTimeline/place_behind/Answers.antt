-- `place_behind` meets its contract: from i on every event is later, so the place is that among the first i. Assumes nothing.
use mathlib.Core.Path.{◌≡◌, sym, ap, ◌∙◌}
use mathlib.Core.Bool.{Bool}
use Prim.Native.Nat.{ℕ, ◌+◌, ◌-◌, ◌<◌}
use native.Mathlib.Omega.{arith}
use lib.ListN.{length, take, get_or}
use lib.Seq.{take_all}
use lib.Ieee as Ieee
use Rattle.rules.specs.Queue.{filed_under, place_behind}
use Rattle.timeline.specs.declared.AudioParamEvent.{AudioParamEvent}
use Rattle.timeline.specs.Timeline.{slot_of, waiting}
use Rattle.timeline.proofs.Laws.{nothing, count, slot_holds}
use Rattle.timeline.proofs.Steps.{place_here, place_before}
use Rattle.timeline.proofs.AudioParamEventTimeline.place_behind.Goals as goal
use Rattle.timeline.proofs.AudioParamEventTimeline.place_behind.Goals.{After-filed_under-t}

pub loop-i-init : goal.loop-i-init
loop-i-init c =
    let q = c.args.self in
    let n : length (waiting q) ≡ q.len = count q c.requires in
    ap (place_behind c.args.time) (sym (take_all q.len (waiting q) (omega arith)))

-- the place looked at, one below i
module _ (c : After-filed_under-t) where
  abbrev at : ℕ
  at = c.loop-i.i - 1

  before : at < length (waiting c.args.self)
  before = omega (arith, count c.args.self c.requires)

  others : place_behind c.args.time (waiting c.args.self) ≡ place_behind c.args.time (take (at + 1) (waiting c.args.self))
  others =
      let e : c.loop-i.i ≡ at + 1 = omega arith in
      c.loop-i.invariant ∙ ap (λ (k : ℕ). place_behind c.args.time (take k (waiting c.args.self))) e

  looked : {b : Bool} → Ieee.le c.filed_under-t.result c.args.time ≡ b → Ieee.le (filed_under (get_or (waiting c.args.self) at nothing)) c.args.time ≡ b
  looked f =
      let s : get_or c.args.self.slots at (slot_of nothing) ≡ slot_of (get_or (waiting c.args.self) at nothing) = slot_holds c.args.self c.requires at (omega arith) in
      ap (λ (x : AudioParamEvent). Ieee.le (filed_under x.event) c.args.time) (sym s) ∙ ap (λ (v : Ieee.Float). Ieee.le v c.args.time) (sym c.filed_under-t.ensures) ∙ f

pub returns-then-t-time : goal.returns-then-t-time
returns-then-t-time c =
    let k = (goal.at.returns-then-t-time c).After-filed_under-t in
    place_here c.args.time (waiting c.args.self) (at k) (before k) (others k) (looked k c.if-t-time.true)

pub loop-i-preserved : goal.loop-i-preserved
loop-i-preserved c =
    let k = (goal.at.loop-i-preserved c).After-filed_under-t in
    place_before c.args.time (waiting c.args.self) (at k) (before k) (others k) (looked k c.if-t-time.false)

pub returns : goal.returns
unfolding place_behind
returns c =
    let z : c.loop-i.i ≡ 0 = omega arith in
    sym (c.loop-i.invariant ∙ ap (λ (k : ℕ). place_behind c.args.time (take k (waiting c.args.self))) z)
