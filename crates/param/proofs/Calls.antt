-- What the calls have in common. Assumes nothing.
use Rattle.std.proofs.Common.{Result, Ok, Err}
use mathlib.Core.Path.{◌≡◌, refl, sym, ap, ◌∙◌}
use mathlib.Core.List.{List, []}
use mathlib.Core.Bool.{Bool, true, false}
use Prim.Native.Nat.{ℕ, suc, ◌+◌, ◌-◌, ◌≤◌}
use native.Mathlib.Omega.{arith}
use lib.Dec.{leb, ltb}
use lib.ListN.{length}
use lib.Ieee as Ieee
use lib.Ieee.{Float}
use borrow.Author.Tests.{leb-true, le-leb}
use Rattle.rules.specs.declared.Bounds.{Bounds}
use Rattle.rules.specs.declared.AutomationRate.{AutomationRate}
use Rattle.rules.specs.declared.Event.{Event}
use Rattle.rules.specs.declared.Refusal.{Refusal}
use Rattle.rules.specs.Numbers.{store_length, plus_zero, is_zero, taken_time}
use Rattle.rules.specs.Queue.{Waiting, lengths_of, packed}
use Rattle.rules.specs.Refusals.{lowest, making_rows}
use Rattle.rules.specs.Block.{Param, with_queue, made, Command, set, step, Called, called, scheduled_as, called_as}
use Rattle.laws.specs.Sound.{Sound}
use Rattle.laws.proofs.Tests.{clash}
use Rattle.laws.proofs.Kept.{made_sound, called_sound}
use Rattle.timeline.specs.declared.AudioParamEventTimeline.{AudioParamEventTimeline}
use Rattle.timeline.proofs.Laws.{waits, made_neat, count}
use Rattle.curves.specs.Curves.{packed_in, Leaves}
use Rattle.param.specs.declared.AudioParam.{AudioParam}
use Rattle.param.specs.declared.Outcome.{Outcome}
use Rattle.param.specs.Param.{param_of, struct_of, outcome_of, answered_with, parts_of, SoundParam, Makes, Answers}

-- ---- the struct of a parameter

-- a sound parameter is the one struct that stands for what it is
pub whole : (p : AudioParam) → SoundParam p → p ≡ struct_of (param_of p)
whole p s = ap (λ (q : AudioParamEventTimeline). parts_of p.bounds p.rate p.edition p.intrinsic q p.block p.end p.last) s.neat.clean

pub struct_back : (p : Param) → param_of (struct_of p) ≡ p
struct_back p = ap (λ (q : List Event). with_queue q p) (waits p.queue)

pub struct_sound : (p : Param) → Sound p → SoundParam (struct_of p)
struct_sound p s = record { neat = made_neat p.queue s.waiting.few; sound = rw (struct_back p) s }

pub counted : (p : AudioParam) → SoundParam p → length (param_of p).queue ≡ p.timeline.len
counted p s = count p.timeline s.neat

-- ---- what the calls ensure

pub makes : {b : Bounds} {rate : AutomationRate} {n : ℕ} {r : Outcome} → r.verdict ≡ lowest (making_rows b n) → r.param ≡ struct_of (made b rate n) → Makes b rate n r
makes {b} {rate} {n} v p = record { verdict = v; param = p; sound = rw p (struct_sound (made b rate n) (made_sound b rate n)) }

pub answers : {p : AudioParam} {store after : List Float} {c : Command} {r : Outcome} → SoundParam p → r ≡ outcome_of (called (param_of p) store c)
    → after ≡ (called (param_of p) store c).store → Answers p store c r after
answers {p} {store} {after} {c} {r} s e f =
    record {
      verdict = ap (λ (o : Outcome). o.verdict) e;
      param = ap (λ (o : Outcome). o.param) e;
      left = f;
      sound = rw e (struct_sound (called (param_of p) store c).param (called_sound (param_of p) store s.sound c));
    }

-- a call that is not lent the store
store_kept : (v : Result Unit Refusal) (p : Param) (store : List Float) (e : Event) → store ≡ (scheduled_as v p store e).store
unfolding scheduled_as
store_kept (Ok _) p store e = refl
store_kept (Err r) p store e = refl

pub schedules : {p : AudioParam} {c : Command} {r : Outcome} (v : Result Unit Refusal) (e : Event) → SoundParam p
    → called (param_of p) [] c ≡ scheduled_as v (param_of p) [] e → r ≡ outcome_of (scheduled_as v (param_of p) [] e) → Answers p [] c r []
schedules {p} {c} {r} v e s is got =
    answers s (got ∙ ap outcome_of (sym is)) (store_kept v (param_of p) [] e ∙ ap (λ (x : Called). x.store) (sym is))

-- "An immediate set is a step at time 0."
pub sets : {p : AudioParam} {v : Float} {r : Outcome} → Answers p [] (step v plus_zero) r [] → Answers p [] (set v) r []
unfolding called taken_time is_zero Ieee.eq
sets a = record { verdict = a.verdict; param = a.param; left = a.left; sound = a.sound }

-- ---- calls that are lent the store

-- two tests of one fact
pub same_test : (a b c d : ℕ) → (a ≤ b → c ≤ d) → (c ≤ d → a ≤ b) → leb a b ≡ leb c d
same_test a b c d f g = go (leb a b) (leb c d) refl refl
  where
    go : (t u : Bool) → leb a b ≡ t → leb c d ≡ u → leb a b ≡ leb c d
    go true u h k = h ∙ sym (le-leb c d (f (leb-true a b h)))
    go false true h k = clash (le-leb a b (g (leb-true c d k))) h
    go false false h k = h ∙ sym k

pub crowded : (q : List Event) (xs : List Float) {used : ℕ} → lengths_of q ≤ store_length → used ≡ lengths_of q
    → ltb (store_length - used) (length xs) ≡ ltb store_length (lengths_of q + length xs)
crowded q xs {used} h e =
    same_test (suc (store_length - used)) (length xs) (suc store_length) (lengths_of q + length xs) (λ k. omega arith) (λ k. omega arith)

module _ {p : AudioParam} {store : List Float} {c : Command} (s : SoundParam p) where
  -- answered: these events wait, and this is the intrinsic value
  pub leaves : (ws : List Waiting) (v : Float) {after : List Float} {q : AudioParamEventTimeline} {r : Outcome}
      → called (param_of p) store c ≡ called_as (Ok tt) (param_of p) store ws v → length store ≡ store_length → Leaves q store after ws
      → r ≡ answered_with p q v → Answers p store c r after
  unfolding called_as packed_in packed
  leaves ws v is lent l got = answers s (got ∙ rw l.queue (ap outcome_of (sym is))) (l.part ∙ rw lent (ap (λ (x : Called). x.store) (sym is)))

  -- refused: nothing changes
  pub keeps : {r : Outcome} {why : Refusal} → called (param_of p) store c ≡ record { verdict = Err why; param = param_of p; store = store }
      → r ≡ record { verdict = Err why; param = p } → Answers p store c r store
  keeps {r} {why} is got =
      answers
      s
      (got ∙ ap (λ (x : AudioParam). record { verdict = Err why; param = x }) (whole p s) ∙ ap outcome_of (sym is))
      (ap (λ (x : Called). x.store) (sym is))
