-- What the contracts settle: two results that one allows for the same input are the same; a refused call changes nothing; a hold leaves a queue in order,
-- and inside a curve it holds that; a cancel leaves the first events, and no curve that spans its time. Assumes nothing.
use Rattle.std.proofs.Common.{Result, Ok, Err}
use mathlib.Core.Path.{◌≡◌, refl, sym, ap, subst, ◌∙◌}
use mathlib.Core.Bool.{true, false}
use mathlib.Core.List.{List, [], ◌∷◌, ◌++◌}
use Prim.Native.Nat.{ℕ}
use native.Mathlib.Omega.{arith}
use lib.ListN.{take}
use lib.Ieee.{Float}
use borrow.Author.Tests.{le-leb}
use Rattle.rules.specs.declared.Bounds.{Bounds}
use Rattle.rules.specs.declared.AutomationRate.{AutomationRate}
use Rattle.rules.specs.declared.Edition.{Edition}
use Rattle.rules.specs.declared.Refusal.{Refusal}
use Rattle.rules.specs.declared.Event.{Event}
use Rattle.rules.specs.Numbers.{most_events, taken_time}
use Rattle.rules.specs.Queue.{Waiting, any, covers, held_event}
use Rattle.rules.specs.Block.{Param, made_as, Called, called_as, scheduled_as, Command, set, step, linear, exponential, target, curve, cancel, hold, called}
use Rattle.laws.proofs.Tests.{and}
use Rattle.laws.proofs.Tested.{passes_test}
use Rattle.laws.specs.Held.{StillInOrder}
use Rattle.laws.specs.Search.{first_going}
use Rattle.laws.specs.Spans.{spans}
use Rattle.laws.proofs.Cancelled.{a_cancel_leaves_the_first as first_left, after_a_cancel_no_curve_spans_it as none_left}
use Rattle.laws.proofs.Held.{when_a_hold_moves_a_time as held-in-order, inside_a_curve_it_is_held as held-inside}
use Rattle.param.specs.declared.AudioParam.{AudioParam}
use Rattle.param.specs.declared.Outcome.{Outcome}
use Rattle.param.specs.Param.{param_of, struct_of, SoundParam, nothing_made, is_whole, Makes, Answers, Restores}
use Rattle.param.proofs.Calls.{whole, struct_back}

same : {a b : Outcome} → a.verdict ≡ b.verdict → a.param ≡ b.param → a ≡ b
same {a} {b} v p = rw (v, p)

pub makes_settled : {b : Bounds} {rate : AutomationRate} {edition : ℕ} {r s : Outcome} → Makes b rate edition r → Makes b rate edition s → r ≡ s
makes_settled m n = same (m.verdict ∙ sym n.verdict) (m.param ∙ sym n.param)

pub answers_settled : {p : AudioParam} {store left other : List Float} {c : Command} {r s : Outcome} → Answers p store c r left → Answers p store c s other
    → (r ≡ s) × (left ≡ other)
answers_settled a b = (same (a.verdict ∙ sym b.verdict) (a.param ∙ sym b.param), a.left ∙ sym b.left)

pub restores_settled : {parts : AudioParam} {r s : Outcome} → Restores parts r → Restores parts s → r ≡ s
restores_settled a b = a.gives ∙ sym b.gives

-- a parameter's own parts give it back
pub restores_own : {p : AudioParam} {r : Outcome} → SoundParam p → Restores p r → r ≡ record { verdict = Ok tt; param = p }
unfolding is_whole
restores_own {p} s a =
    let h : is_whole p ≡ true = and (le-leb p.timeline.len most_events s.neat.few) (passes_test (param_of p) s.sound) in
    a.gives ∙ rw h (ap (λ (x : AudioParam). record { verdict = (Ok tt); param = x }) (sym (whole p s)))

-- what parts are refused with is what refusal 1 returns, and 12
pub unmade_is : (why : Refusal) (b : Bounds) (rate : AutomationRate) (e : Edition) → made_as (Err why) b rate e ≡ nothing_made
unfolding made_as
unmade_is why b rate e = refl

-- ---- "Any other refusal returns the parameter unchanged .. and touches neither output nor curve store."

abbrev Same : Param → List Float → Called → Type 0
Same p store x = (x.param ≡ p) × (x.store ≡ store)

module _ (p : Param) (store : List Float) {why : Refusal} where
  called_same : (v : Result Unit Refusal) (ws : List Waiting) (i : Float) → (called_as v p store ws i).verdict ≡ Err why → Same p store (called_as v p store ws i)
  unfolding called_as
  called_same (Ok _) ws i h = let z : ◌≡◌ {A = ℕ} 0 1 = cc in absurd (omega arith)
  called_same (Err r) ws i h = (refl, refl)

  scheduled-same : (v : Result Unit Refusal) (e : Event) → (scheduled_as v p store e).verdict ≡ Err why → Same p store (scheduled_as v p store e)
  unfolding scheduled_as
  scheduled-same (Ok _) e h = let z : ◌≡◌ {A = ℕ} 0 1 = cc in absurd (omega arith)
  scheduled-same (Err r) e h = (refl, refl)

  refused_called : (c : Command) → (called p store c).verdict ≡ Err why → Same p store (called p store c)
  unfolding called
  refused_called (set v) h = scheduled-same _ _ h
  refused_called (step v t) h = scheduled-same _ _ h
  refused_called (linear v t) h = scheduled-same _ _ h
  refused_called (exponential v t) h = scheduled-same _ _ h
  refused_called (target v t c) h = scheduled-same _ _ h
  refused_called (curve t d xs) h = called_same _ _ _ h
  refused_called (cancel c) h = called_same _ _ _ h
  refused_called (hold c) h = called_same _ _ _ h

pub refused_same : {p : AudioParam} {store after : List Float} {c : Command} {r : Outcome} {why : Refusal} → SoundParam p → Answers p store c r after
    → r.verdict ≡ Err why → (r.param ≡ p) × (after ≡ store)
refused_same {p} {store} {after} {c} s a h =
    let same = refused_called (param_of p) store c (sym a.verdict ∙ h) in
    (a.param ∙ ap struct_of same.0 ∙ sym (whole p s), a.left ∙ same.1)

-- ---- 02, C-15: "When a hold moves a time, the queue is still in order, equal times as before."

pub when_a_hold_moves_a_time : {p : AudioParam} {store after : List Float} {c : Float} {r : Outcome} → SoundParam p → Answers p store (hold c) r after
    → StillInOrder (taken_time c) (param_of p).queue (param_of r.param).queue
when_a_hold_moves_a_time {p} {store} {c = c} s a =
    subst (λ (q : Param). StillInOrder (taken_time c) (param_of p).queue q.queue) (sym (ap param_of a.param ∙ struct_back _)) (held-in-order (param_of p) store c s.sound)

-- ---- 02, C-14: "A cancel-and-hold at or after a waiting curve's start and before its end holds that curve, as if no ramp followed"

pub inside_a_curve_it_is_held : {p : AudioParam} {store after : List Float} {c : Float} {r : Outcome} → SoundParam p → Answers p store (hold c) r after
    → r.verdict ≡ Ok tt → (before : List Event) (e : Event) (behind : List Event) → (param_of p).queue ≡ before ++ (e ∷ behind) → covers (taken_time c) e ≡ true
    → (param_of r.param).queue ≡ before ++ (held_event (taken_time c) e ∷ [])
inside_a_curve_it_is_held {p} {store} {c = c} s a h before e behind split inside =
    ap (λ (q : Param). q.queue) (ap param_of a.param ∙ struct_back _) ∙ held-inside (param_of p) store c s.sound (sym a.verdict ∙ h) before e behind split inside

-- ---- 02, C-12: "Web Audio removes a curve whose span, both ends included, holds the cancel time."

module _ {p : AudioParam} {store after : List Float} {c : Float} {r : Outcome} (a : Answers p store (cancel c) r after) (h : r.verdict ≡ Ok tt) where
  queue_is : (param_of r.param).queue ≡ (called (param_of p) store (cancel c)).param.queue
  queue_is = ap (λ (q : Param). q.queue) (ap param_of a.param ∙ struct_back _)

  pub a_cancel_leaves_the_first : SoundParam p → (param_of r.param).queue ≡ take (first_going (taken_time c) (param_of p).queue) (param_of p).queue
  a_cancel_leaves_the_first s = queue_is ∙ first_left (param_of p) store c s.sound (sym a.verdict ∙ h)

  pub after_a_cancel_no_curve_spans_it : any (spans (taken_time c)) (param_of r.param).queue ≡ false
  after_a_cancel_no_curve_spans_it = rw queue_is (none_left (param_of p) store c (sym a.verdict ∙ h))
