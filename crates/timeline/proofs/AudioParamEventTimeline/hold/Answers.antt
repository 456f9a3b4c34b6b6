-- `hold` meets its contract, by what the first event later than c is. Assumes nothing.
use mathlib.Core.Path.{◌≡◌, sym, ap, ◌∙◌}
use mathlib.Core.Bool.{Bool, true, not, ◌&&◌}
use mathlib.Core.List.{List, []}
use Prim.Native.Nat.{ℕ, ◌≤◌, ◌<◌}
use native.Mathlib.Omega.{arith}
use lib.ListN.{length}
use lib.Ieee.{Float}
use Rattle.std.specs.Prelude.{Option, find}
use Rattle.laws.specs.Search.{is_later_than}
use Rattle.timeline.proofs.Steps.{first_is}
use Rattle.rules.specs.declared.Event.{Event}
use Rattle.rules.specs.Queue.{is_ramp, any_covers, put_at, those, events_of, attached, held_event, last_held}
use Rattle.timeline.specs.declared.AudioParamEventTimeline.{AudioParamEventTimeline}
use Rattle.timeline.specs.Timeline.{Neat, made, waiting, first_of, stays}
use Rattle.timeline.proofs.Lists.{those-length}
use Rattle.timeline.proofs.Laws.{count, neat_of, waits_of}
use Rattle.timeline.proofs.Held.{held_none, held_other, held_ramp, early_fewer}
use Rattle.timeline.proofs.AudioParamEventTimeline.hold.Goals as goal

later_is : (c : Float) (q : AudioParamEventTimeline) {e : Option Event} → e ≡ find (is_later_than c) (waiting q) → e ≡ first_of (those (is_later_than c) (waiting q))
later_is c q h = h ∙ first_is (is_later_than c) (waiting q)

module _ (c : Float) (q : AudioParamEventTimeline) where
  -- what the cut leaves
  abbrev early : List Event
  early = those (stays true c) (waiting q)

  cut_neat : Neat q → (k : AudioParamEventTimeline) → k ≡ made early → Neat k
  cut_neat h k e =
      let n : length (waiting q) ≡ q.len = count q h in
      let few : q.len ≤ 64 = h.few in
      neat_of k early e (omega (arith, those-length (stays true c) (waiting q)))

  last_of : (k : AudioParamEventTimeline) → k ≡ made early → made (events_of (last_held c (attached (waiting k) []))) ≡ made (events_of (last_held c (attached early [])))
  last_of k e = ap (λ (xs : List Event). made (events_of (last_held c (attached xs [])))) (waits_of k early e)

  put_end : (k : AudioParamEventTimeline) → k ≡ made early → (n : ℕ) → n ≡ length (waiting k) → (x e : Event) → x ≡ held_event c e
      → put_at n x (waiting k) ≡ put_at (length early) (held_event c e) early
  put_end k e n m x d f = rw (m, f, waits_of k early e)

  -- whether a ramp is held, as code asks it
  ramps : (k : AudioParamEventTimeline) → k ≡ made early → (e : Event) {r o b : Bool} → r ≡ is_ramp e → o ≡ any_covers c (waiting k) → (r && not o) ≡ b
      → (is_ramp e && not (any_covers c early)) ≡ b
  ramps k e d f g h = sym (rw (f, g, waits_of k early e)) ∙ h

pub hold_last-requires : goal.hold_last-requires
hold_last-requires c = cut_neat c.args.c c.args.self c.requires c.retain-kept.result c.retain-kept.ensures

pub returns-in_default : goal.returns-in_default
returns-in_default c =
    let a = c.args in
    c.hold_last.ensures
    ∙ last_of a.c a.self c.retain-kept.result c.retain-kept.ensures
    ∙ ap made (held_none a.c (waiting a.self) (sym (later_is c.args.c c.args.self c.first_later.ensures) ∙ c.in_default.is))

pub any_covers-requires : goal.any_covers-requires
any_covers-requires c =
    cut_neat c.args.c c.args.self c.requires c.retain-kept.result c.retain-kept.ensures

pub put_at-requires : goal.put_at-requires
put_at-requires c =
    let i = c.before.before.before in
    let a = c.args in
    let k = c.retain-kept.result in
    let h = cut_neat a.c a.self c.requires k c.retain-kept.ensures in
    let n : length (waiting a.self) ≡ a.self.len = count a.self c.requires in
    let m : length (waiting k) ≡ k.len = count k h in
    let w : length (waiting k) ≡ length (early a.c a.self) = ap length (waits_of k _ c.retain-kept.ensures) in
    let few : a.self.len ≤ 64 = c.requires.few in
    let f : length (early a.c a.self) < length (waiting a.self) =
    early_fewer a.c (waiting a.self) c.in-Some.e (sym (later_is c.args.c c.args.self c.first_later.ensures) ∙ c.in-Some.is) in
    (h, omega arith, omega arith)

pub hold_last-requires-else-ramp : goal.hold_last-requires-else-ramp
hold_last-requires-else-ramp c = cut_neat c.args.c c.args.self c.requires c.retain-kept.result c.retain-kept.ensures

pub returns-then-ramp : goal.returns-then-ramp
returns-then-ramp c =
    let o = c.before.before.before in
    let i = o.before in
    let a = c.args in
    let k = c.retain-kept.result in
    let e = c.in-Some.e in
    let m : k.len ≡ length (waiting k) = sym (count k (cut_neat a.c a.self c.requires k c.retain-kept.ensures)) in
    c.put_at.ensures
    ∙ ap made (put_end a.c a.self k c.retain-kept.ensures k.len m c.held_event.result e c.held_event.ensures)
    ∙ ap made
    (held_ramp a.c (waiting a.self) e (sym (later_is c.args.c c.args.self c.first_later.ensures) ∙ c.in-Some.is)
    (ramps a.c a.self k c.retain-kept.ensures e c.is_ramp.ensures c.any_covers.ensures c.if-ramp.true))

pub returns-else-ramp : goal.returns-else-ramp
returns-else-ramp c =
    let o = c.before.before in
    let i = o.before in
    let a = c.args in
    let e = c.in-Some.e in
    c.hold_last-else-ramp.ensures
    ∙ last_of a.c a.self c.retain-kept.result c.retain-kept.ensures
    ∙ ap made
    (held_other a.c (waiting a.self) e (sym (later_is c.args.c c.args.self c.first_later.ensures) ∙ c.in-Some.is)
    (ramps a.c a.self c.retain-kept.result c.retain-kept.ensures e c.is_ramp.ensures c.any_covers.ensures c.if-ramp.false))
