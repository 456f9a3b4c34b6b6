-- `hold_last` meets its contract. Assumes nothing.
use mathlib.Core.Path.{◌≡◌, sym, ap, ◌∙◌}
use mathlib.Core.Bool.{Bool}
use Prim.Native.Nat.{ℕ, ◌+◌}
use native.Mathlib.Omega.{arith}
use lib.ListN.{length, get_or, set}
use Rattle.rules.specs.Queue.{runs_at, held_event}
use Rattle.timeline.specs.declared.AudioParamEvent.{AudioParamEvent}
use Rattle.timeline.specs.Timeline.{slot_of, made, waiting}
use Rattle.timeline.proofs.Laws.{nothing, count, slot_holds, replaced}
use Rattle.timeline.proofs.Held.{none_held, last_runs, last_rests}
use Rattle.timeline.proofs.AudioParamEventTimeline.hold_last.Goals as goal
use Rattle.timeline.proofs.AudioParamEventTimeline.hold_last.Goals.{After-runs_at}

pub returns-in_default : goal.returns-in_default
returns-in_default c =
    let q = c.args.self in
    let n : length (waiting q) ≡ q.len = count q c.requires in
    c.requires.clean ∙ ap made (none_held c.args.c (waiting q) (omega (arith, c.in_default.ensures)))

module _ (c : After-runs_at) where
  behind : length (waiting c.args.self) ≡ c.in-Some.last + 1
  behind = omega (arith, count c.args.self c.requires, c.in-Some.ensures)

  there : get_or c.args.self.slots c.in-Some.last (slot_of nothing) ≡ slot_of (get_or (waiting c.args.self) c.in-Some.last nothing)
  there = slot_holds c.args.self c.requires c.in-Some.last (omega (arith, c.in-Some.ensures))

  asked : {b : Bool} → c.runs_at.result ≡ b → runs_at c.args.c (get_or (waiting c.args.self) c.in-Some.last nothing) ≡ b
  asked f = ap (λ (x : AudioParamEvent). runs_at c.args.c x.event) (sym there) ∙ sym c.runs_at.ensures ∙ f

pub returns-then-runs_at : goal.returns-then-runs_at
returns-then-runs_at c =
    let k = (goal.at.returns-then-runs_at c).After-runs_at in
    let q = c.args.self in
    let i : ℕ = c.in-Some.last in
    let e = c.held_event.ensures ∙ ap (λ (x : AudioParamEvent). held_event c.args.c x.event) (there k) in
    replaced q c.requires i c.held_event.result (omega (arith, behind k, count q c.requires))
    ∙ ap made (ap (set (waiting q) i) e ∙ last_runs c.args.c (waiting q) i (behind k) (asked k c.if-runs_at.true))

pub returns-else-runs_at : goal.returns-else-runs_at
returns-else-runs_at c =
    let k = (goal.at.returns-else-runs_at c).After-runs_at in
    c.requires.clean ∙ ap made (last_rests c.args.c (waiting c.args.self) c.in-Some.last (behind k) (asked k c.if-runs_at.false))
