-- What any calls before the first block leave of a parameter just made: only its waiting events differ, every curve has its numbers, and none
-- has an event inside. Assumes nothing.
use Rattle.std.proofs.Common.{Option, None, Result, Ok, Err}
use Rattle.rules.specs.declared.Finished.{Finished}
use mathlib.Core.Path.{◌≡◌, refl, ap, ◌∙◌}
use mathlib.Core.Bool.{Bool, true, false, cond}
use mathlib.Core.List.{List, [], ◌∷◌}
use Prim.Native.Nat.{ℕ, ◌≤◌}
use native.Mathlib.Omega.{arith}
use lib.ListN.{length}
use lib.Ieee.{Float}
use Rattle.rules.specs.declared.Event.{Event}
use Rattle.rules.specs.declared.Refusal.{Refusal}
use Rattle.rules.specs.declared.Bounds.{Bounds}
use Rattle.rules.specs.declared.AutomationRate.{AutomationRate}
use Rattle.rules.specs.Numbers.{store_length, taken_time}
use Rattle.rules.specs.Queue.{Waiting, length_of, head_of, lengths_of, loses_head, returned, value_after_cancel, loses_curve, value_after_hold}
use Rattle.rules.specs.Block.{Param, Called, Command, set, step, linear, exponential, target, curve, cancel, hold, with_queue, scheduled_as, called_as, called, made}
use Rattle.laws.specs.Fits.{AllFit}
use Rattle.laws.specs.Sound.{Sound}
use Rattle.laws.specs.Apart.{are_apart}
use Rattle.laws.proofs.Store.{fit_inserted, fit_cancelled, fit_held, numbers-length, packed-length}
use Rattle.laws.proofs.Kept.{made-fresh, made_sound, called_sound, called-apart}
use Rattle.playing.specs.Play.{State, waiting, begun, asked, left_by_call, after_call, scheduled, accepted_if, accepted, AllAccepted}
use Rattle.playing.proofs.States.{bare, SoundState, waiting_fit}

-- ---- a call before the first block

-- with no last event a cancel leaves the intrinsic value, and so does a hold
value_stays : (b : Bool) (l : Option Finished) (v : Float) → l ≡ None → cond b (returned l v) v ≡ v
unfolding returned
value_stays true l v none = rw none
value_stays false l v none = refl

-- A call is lent the store, or is not. Where it is, the waiting events that it leaves have their numbers.
data Shape (s : State) : Called → Type 0 where
  plain : (v : Result Unit Refusal) (e : Event) → Shape s (scheduled_as v s.param s.store e)
  lent : (v : Result Unit Refusal) (ws : List Waiting) (i : Float) → (SoundState s → AllFit ws) → (s.param.last ≡ None → i ≡ s.param.intrinsic)
      → Shape s (called_as v s.param s.store ws i)

asked_shape : (s : State) (c : Command) → Shape s (asked s c)
unfolding asked called waiting length_of value_after_cancel value_after_hold
asked_shape s (set v) = plain _ _
asked_shape s (step v t) = plain _ _
asked_shape s (linear v t) = plain _ _
asked_shape s (exponential v t) = plain _ _
asked_shape s (target v t c) = plain _ _
asked_shape s (curve t d xs) = lent _ _ _ (λ h. fit_inserted _ (waiting s) refl (waiting_fit s h)) (λ none. refl)
asked_shape s (cancel c) =
    lent _ _ _ (λ h. fit_cancelled (taken_time c) (waiting s) (waiting_fit s h)) (value_stays (loses_head (taken_time c) s.param.last_end (head_of (waiting s))) s.param.last s.param.intrinsic)
asked_shape s (hold c) =
    lent _ _ _ (λ h. fit_held (taken_time c) (waiting s) (waiting_fit s h)) (value_stays (loses_curve (taken_time c) s.param.last_end (head_of (waiting s))) s.param.last s.param.intrinsic)

never : {A : Type 0} {r : Refusal} → ◌≡◌ {A = Result Unit Refusal} (Ok tt) (Err r) → A
never h = let z : ◌≡◌ {A = ℕ} 0 1 = cc in absurd (omega arith)

module _ (s : State) where
  call_same : {a : Called} → Shape s a → s.param.last ≡ None → with_queue [] a.param ≡ bare s
  unfolding scheduled_as called_as
  call_same (plain (Ok _) e) none = refl
  call_same (plain (Err r) e) none = refl
  call_same (lent (Ok _) ws i fit stays) none = rw (stays none)
  call_same (lent (Err r) ws i fit stays) none = refl

  call_long : {a : Called} → Shape s a → SoundState s → lengths_of a.param.queue ≤ store_length → length a.store ≡ store_length
  unfolding scheduled_as called_as
  call_long (plain (Ok _) e) h room = h.long
  call_long (plain (Err r) e) h room = h.long
  call_long (lent (Ok _) ws i fit stays) h room = packed-length ws (omega (arith, numbers-length ws (fit h)))
  call_long (lent (Err r) ws i fit stays) h room = h.long

  -- a refused call changes nothing
  call_refused : {a : Called} → Shape s a → (r : Refusal) → a.verdict ≡ Err r → left_by_call a ≡ s
  unfolding scheduled_as called_as
  call_refused (plain (Ok _) e) r h = never h
  call_refused (plain (Err q) e) r h = refl
  call_refused (lent (Ok _) ws i fit stays) r h = never h
  call_refused (lent (Err q) ws i fit stays) r h = refl

-- ---- a call at any time

pub call_sound : (s : State) → SoundState s → (c : Command) → SoundState (after_call s c)
unfolding after_call asked
call_sound s h c =
    let sound : Sound (asked s c).param = called_sound s.param s.store h.sound c in
    record { sound = sound; long = call_long s (asked_shape s c) h sound.waiting.room }

pub refused_call : (s : State) (c : Command) (r : Refusal) → (asked s c).verdict ≡ Err r → after_call s c ≡ s
unfolding after_call
refused_call s c r h = call_refused s (asked_shape s c) r h

-- ---- schedules

-- the parameter p but for the events that wait
pub record Ready (p : Param) (s : State) : Type 0 where
  pub same : bare s ≡ p
  pub sound : SoundState s

call_ready : (p : Param) (s : State) → p.last ≡ None → Ready p s → (c : Command) → Ready p (after_call s c)
unfolding after_call asked
call_ready p s none r c =
    record { same = call_same s (asked_shape s c) (ap (λ (q : Param). q.last) r.same ∙ none) ∙ r.same; sound = call_sound s r.sound c }

schedule_ready : (p : Param) → p.last ≡ None → (cs : List Command) (s : State) → Ready p s → Ready p (scheduled s cs)
unfolding scheduled
schedule_ready p none [] s r = r
schedule_ready p none (c ∷ cs) s r = schedule_ready p none cs (after_call s c) (call_ready p s none r c)

-- from a parameter just made and a store of 4,096 numbers, whatever they are
pub begun_ready : (b : Bounds) (r : AutomationRate) (n : ℕ) (store : List Float) → length store ≡ store_length → (cs : List Command)
    → Ready (with_queue [] (made b r n)) (scheduled (begun b r n store) cs)
unfolding begun
begun_ready b r n store long cs =
    schedule_ready
    (with_queue [] (made b r n))
    (ap (λ (p : Param). p.last) (made-fresh b r n))
    cs
    (begun b r n store)
    record { same = refl; sound = record { sound = made_sound b r n; long = long } }

-- ---- before the first block no event lies inside a curve (02, C-14)

apart-scheduled : (cs : List Command) (s : State) → Sound s.param → are_apart s.param.queue ≡ true → are_apart (scheduled s cs).param.queue ≡ true
unfolding scheduled after_call asked
apart-scheduled [] s h a = a
apart-scheduled (c ∷ cs) s h a = unfold scheduled after_call asked in apart-scheduled cs (after_call s c) (called_sound s.param s.store h c) (called-apart s.param s.store h c a)

pub nothing_inside : (b : Bounds) (r : AutomationRate) (n : ℕ) (store : List Float) (cs : List Command) → are_apart (scheduled (begun b r n store) cs).param.queue ≡ true
unfolding begun
nothing_inside b r n store cs =
    apart-scheduled cs (begun b r n store) (made_sound b r n) (ap (λ (p : Param). are_apart p.queue) (made-fresh b r n) ∙ (unfold are_apart in refl))

-- ---- a refused call changes nothing, so any calls are a schedule of those that are accepted

pub accepted-alone : (cs : List Command) (s : State) → AllAccepted s (accepted s cs) × (scheduled s (accepted s cs) ≡ scheduled s cs)
unfolding accepted scheduled
accepted-alone [] s = (tt, refl)
accepted-alone (c ∷ cs) s = go (asked s c).verdict refl (accepted-alone cs (after_call s c))
  where
    more : List Command
    more = accepted (after_call s c) cs

    go : (v : Result Unit Refusal) → (asked s c).verdict ≡ v → AllAccepted (after_call s c) more × (scheduled (after_call s c) more ≡ scheduled (after_call s c) cs)
        → AllAccepted s (accepted_if v c more) × (scheduled s (accepted_if v c more) ≡ scheduled (after_call s c) cs)
    go (Ok _) e h = unfold accepted_if in ((e, h.0), h.1)
    go (Err r) e h =
        unfold accepted_if in
        let same : after_call s c ≡ s = refused_call s c r e in
        rw same (rw same at h)
