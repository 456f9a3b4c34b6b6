-- Two states with the same parameter and the same waiting events, whatever stands in their stores behind the curves' numbers, tell the same. Assumes nothing.
use Rattle.std.proofs.Common.{Ok, Err}
use mathlib.Core.Path.{◌≡◌, refl, sym, ap, ap₂, ◌∙◌}
use mathlib.Core.Bool.{true}
use mathlib.Core.List.{List, [], ◌∷◌, ◌++◌, map}
use Prim.Native.Nat.{ℕ, ◌≤◌}
use native.Mathlib.Omega.{arith}
use lib.ListN.{length, take, drop, take-append-drop}
use lib.Ieee.{Float}
use Rattle.rules.specs.declared.Refusal.{Refusal}
use Rattle.rules.specs.Numbers.{store_length}
use Rattle.rules.specs.Queue.{Waiting, events_of, numbers_of, lengths_of, attached}
use Rattle.rules.specs.Block.{Param, Call, Answer, with_queue, answered, answered_as, verdict_of}
use Rattle.laws.proofs.Store.{numbers-length, numbers-attached, attached-numbers, read_back, packed_back, packed-length}
use Rattle.playing.specs.Play.{State, waiting, loaded, tidied, left_by, answer_to, after, after_all, played, store_told, told, is_answered, any_answered}
use Rattle.playing.specs.Demand.{Holds, with_store}
use Rattle.playing.proofs.States.{SoundState, waiting_fit, queue_is, said_over, answered_is, answered_tidy, refused_leaves, after_sound, by_verdict}
use Rattle.playing.proofs.Blocks.{Beside, same_verdict}

-- the same events wait in both
abbrev pub Twins : List Waiting → State → State → Type 0
Twins ws s t = Beside ws ws [] s t

param_same : {ws : List Waiting} {s t : State} → Twins ws s t → s.param ≡ t.param
param_same {ws} {s} {t} h =
    let q : s.param.queue ≡ t.param.queue = sym (queue_is s) ∙ ap events_of (h.first ∙ sym h.second) ∙ queue_is t in
    ap₂ with_queue q h.same

-- ---- a block

record Twin (s t : State) (c : Call) : Type 0 where
  events : List Waiting
  left : Twins events (after s c) (after t c)
  tells : told (answer_to s c) ≡ told (answer_to t c)

module _ (ws : List Waiting) (s t : State) (h : Twins ws s t) (c : Call) where
  answered_twin : verdict_of s.param s.store c ≡ Ok tt → Twin s t c
  unfolding after
  answered_twin e =
      let d : answer_to t c ≡ answer_to s c =
      answered_is t c (same_verdict h c ∙ e)
      ∙ ap₂ (λ (q : Param) (ws : List Waiting). said_over q ws c) (sym h.same) (h.second ∙ sym h.first)
      ∙ sym (answered_is s c e) in
      let same_left : after t c ≡ after s c = ap left_by d in
      let k : SoundState (after s c) = after_sound s c h.sound_first in
      record {
        events = waiting (after s c);
        left = rw same_left record { same = refl; first = refl; second = refl; sound_first = k; sound_second = k };
        tells = ap told (sym d);
      }

  refused_twin : (why : Refusal) → verdict_of s.param s.store c ≡ Err why → Twin s t c
  unfolding answer_to answered answered_as told store_told
  refused_twin why e =
      let d : verdict_of t.param t.store c ≡ Err why = same_verdict h c ∙ e in
      record {
        events = ws;
        left = rw (refused_leaves s c why e, refused_leaves t c why d) h;
        tells = rw (e, d) (ap (λ (p : Param). told (answered_as (Err why) p [] c)) (param_same h));
      }

  twin : Twin s t c
  twin = by_verdict (verdict_of s.param s.store c) answered_twin refused_twin

-- ---- all blocks

pub tell_the_same : (cs : List Call) (ws : List Waiting) (s t : State) → Twins ws s t → map told (played s cs) ≡ map told (played t cs)
unfolding played
tell_the_same [] ws s t h = refl
tell_the_same (c ∷ cs) ws s t h =
    let g : Twin s t c = twin ws s t h c in
    ap₂ (λ (x : Answer) (xs : List Answer). x ∷ xs) g.tells (tell_the_same cs g.events (after s c) (after t c) g.left)

-- ---- a state with its store as an answered call leaves it

pub tidied_twin : (s : State) → SoundState s → Twins (waiting s) (tidied s) s
unfolding tidied loaded waiting
tidied_twin s h =
    let room : lengths_of (events_of (waiting s)) ≤ store_length = rw (queue_is s) h.sound.waiting.room in
    record {
      same = refl;
      first = packed_back (waiting s) (waiting_fit s h);
      second = refl;
      sound_first = record { sound = rw (queue_is s) h.sound; long = packed-length (waiting s) (omega (arith, numbers-length (waiting s) (waiting_fit s h))) };
      sound_second = h;
    }

-- ---- a state with any store that holds its curves' numbers first

pub own_holds : (s : State) → SoundState s → Holds (waiting s) s.store
unfolding waiting
own_holds s h =
    let long : lengths_of s.param.queue ≤ length s.store = omega (arith, h.sound.waiting.room, h.long) in
    record {
      long = h.long;
      first = ap (λ (n : ℕ). take n s.store) (attached-numbers s.param.queue s.store long) ∙ sym (numbers-attached s.param.queue s.store);
    }

pub held_twin : (s : State) (store : List Float) → SoundState s → Holds (waiting s) store → Twins (waiting s) s (with_store store s)
unfolding waiting
held_twin s store h k =
    let ws : List Waiting = waiting s in
    let n : ℕ = length (numbers_of ws) in
    let parts : numbers_of ws ++ drop n store ≡ store = ap (λ (l : List Float). l ++ drop n store) (sym k.first) ∙ take-append-drop n store in
    record {
      same = refl;
      first = refl;
      second = ap₂ attached (sym (queue_is s)) (sym parts) ∙ read_back ws (waiting_fit s h) (drop n store);
      sound_first = h;
      sound_second = record { sound = h.sound; long = k.long };
    }

-- ---- what is tidied stays so

after_tidy : (s : State) → SoundState s → (c : Call) → tidied s ≡ s → tidied (after s c) ≡ after s c
after_tidy s h c tidy =
    by_verdict (verdict_of s.param s.store c) (λ e. answered_tidy s c e h) (λ why e. rw (refused_leaves s c why e) tidy)

all_tidy : (cs : List Call) (s : State) → SoundState s → tidied s ≡ s → tidied (after_all s cs) ≡ after_all s cs
unfolding after_all
all_tidy [] s h tidy = tidy
all_tidy (c ∷ cs) s h tidy = all_tidy cs (after s c) (after_sound s c h) (after_tidy s h c tidy)

-- and it is so once a block was answered
pub once-answered : (cs : List Call) (s : State) → SoundState s → any_answered (played s cs) ≡ true → tidied (after_all s cs) ≡ after_all s cs
unfolding after_all played any_answered answer_to answered answered_as is_answered
once-answered [] s h some = let z : ◌≡◌ {A = ℕ} 0 1 = cc in absurd (omega arith)
once-answered (c ∷ cs) s h some =
    by_verdict
    (verdict_of s.param s.store c)
    (λ e. all_tidy cs (after s c) (after_sound s c h) (answered_tidy s c e h))
    (λ why e. once-answered cs (after s c) (after_sound s c h) (rw e at some))

-- ---- the answers to the first blocks, and to those behind them

pub played_first : (s : State) (cs ds : List Call) → take (length cs) (played s (cs ++ ds)) ≡ played s cs
unfolding played
played_first s [] ds = refl
played_first s (c ∷ cs) ds = ap (λ (l : List Answer). answer_to s c ∷ l) (played_first (after s c) cs ds)

pub played-behind : (s : State) (cs ds : List Call) → drop (length cs) (played s (cs ++ ds)) ≡ played (after_all s cs) ds
unfolding played after_all
played-behind s [] ds = refl
played-behind s (c ∷ cs) ds = played-behind (after s c) cs ds
