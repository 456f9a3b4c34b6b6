-- Demand 3. Assumes nothing.
use mathlib.Core.Path.{◌≡◌, refl, sym, ap, ap₂, ◌∙◌}
use mathlib.Core.Bool.{Bool, true, false, cond}
use mathlib.Core.List.{List, [], ◌∷◌, ◌++◌, map}
use Prim.Native.Nat.{ℕ, zero, suc, ◌-◌}
use native.Mathlib.Omega.{arith}
use lib.ListN.{length, take, drop, take-append-drop, length-append, length-drop}
use lib.Seq.{take_at}
use Rattle.rules.specs.Queue.{Waiting}
use Rattle.rules.specs.Block.{Call, made, with_queue}
use Rattle.playing.specs.Play.{State, waiting, loaded, tidied, begun, scheduled, after, after_all, played, told}
use Rattle.playing.specs.Demand.{two_wait, while_two_wait, still_shared, resumed_with, resumed, behind, with_store, PlayedTheSame, Demand3, Demand3Each}
use Rattle.playing.proofs.States.{bare, SoundState}
use Rattle.playing.proofs.Blocks.{Beside, turned_round, Together, all_blocks}
use Rattle.playing.proofs.Schedules.{Ready, begun_ready}
use Rattle.playing.proofs.Resume.{Twins, tell_the_same, tidied_twin, own_holds, held_twin, once-answered, played-behind}

-- the blocks while two wait are the first ones
pub first_blocks : (n : ℕ) (s : State) (all : List Call) → while_two_wait n s all ++ drop (length (while_two_wait n s all)) all ≡ all
unfolding while_two_wait
first_blocks n s [] = refl
first_blocks n s (c ∷ all) = go (two_wait n (after s c)) (first_blocks n (after s c) all)
  where
    go : (b : Bool) → while_two_wait n (after s c) all ++ drop (length (while_two_wait n (after s c) all)) all ≡ all
        → cond b (c ∷ while_two_wait n (after s c) all) [] ++ drop (length (cond b (c ∷ while_two_wait n (after s c) all) [])) (c ∷ all) ≡ c ∷ all
    go true h = ap (λ (l : List Call). c ∷ l) h
    go false h = refl

-- and each of them is
each_block : (n : ℕ) (s : State) (all : List Call) (k : ℕ) → while_two_wait n s (take k (while_two_wait n s all)) ≡ take k (while_two_wait n s all)
unfolding while_two_wait
each_block n s [] zero = refl
each_block n s [] (suc k) = refl
each_block n s (c ∷ all) zero = refl
each_block n s (c ∷ all) (suc k) = go (two_wait n (after s c)) refl (each_block n (after s c) all k)
  where
    cs : List Call
    cs = while_two_wait n (after s c) all

    go : (b : Bool) → two_wait n (after s c) ≡ b → while_two_wait n (after s c) (take k cs) ≡ take k cs
        → while_two_wait n s (take (suc k) (cond b (c ∷ cs) [])) ≡ take (suc k) (cond b (c ∷ cs) [])
    go true e h = rw (e, h)
    go false e h = refl

-- ---- of two states that differ only in what waits behind the shared events, at any time

module _ {a b shared : List Waiting} {s t : State} (h : Beside a b shared s t) where
  shared_is : still_shared (length a) s ≡ shared
  unfolding still_shared
  shared_is =
      let n : length (shared ++ a) - length a ≡ length shared = simp length-append (omega arith) in
      rw (h.first, n, take_at shared a (length shared) refl)

  as_second : tidied t ≡ resumed_with (length a) b s
  unfolding tidied resumed_with loaded
  as_second = ap₂ loaded (sym h.same) h.second ∙ ap (λ (l : List Waiting). loaded (bare s) (l ++ b)) (sym shared_is)

module _ (m : ℕ) (s t : State) (same : bare s ≡ bare t) (sound_first : SoundState s) (sound_second : SoundState t)
    (agree : take m (waiting s) ≡ take m (waiting t)) where
  beside : Beside (drop m (waiting s)) (drop m (waiting t)) (take m (waiting s)) s t
  beside =
      record {
        same = same;
        first = sym (take-append-drop m (waiting s));
        second = sym (take-append-drop m (waiting t)) ∙ ap (λ (l : List Waiting). l ++ drop m (waiting t)) (sym agree);
        sound_first = sound_first;
        sound_second = sound_second;
      }

  pub demand_3_of_states : (all : List Call) → PlayedTheSame m s t all (while_two_wait (behind m s) s all)
  demand_3_of_states all =
      let n : length (drop m (waiting s)) ≡ behind m s = length-drop m (waiting s) in
      let k : length (drop m (waiting t)) ≡ behind m t = length-drop m (waiting t) in
      let cs : List Call = while_two_wait (behind m s) s all in
      let ds : List Call = drop (length cs) all in
      let g : Together (drop m (waiting s)) (drop m (waiting t)) s t all cs = rw n at (all_blocks _ _ all (take m (waiting s)) s t beside) in
      let state : tidied (after_all t cs) ≡ resumed m s t cs = rw n at (as_second g.left) in
      let twin : Twins (waiting (after_all t cs)) (tidied (after_all t cs)) (after_all t cs) = tidied_twin (after_all t cs) g.left.sound_second in
      let sound : SoundState (resumed m s t cs) = rw state at twin.sound_first in
      record {
        first = refl;
        second = rw k at g.second;
        heard = g.heard;
        shared = rw n at (shared_is g.left) ∙ sym (rw k at (shared_is (turned_round g.left)));
        later = g.left.first ∙ ap (λ (l : List Waiting). l ++ drop m (waiting s)) (sym (rw n at (shared_is g.left)));
        state = state;
        whole = λ some. sym (once-answered cs t sound_second some) ∙ state;
        sound = sound.sound;
        holds = own_holds (resumed m s t cs) sound;
        rest =
            λ store holds.
            ap (λ (l : List Call). map told (drop (length cs) (played t l))) (sym (first_blocks (behind m s) s all))
            ∙ ap (map told) (played-behind t cs ds)
            ∙ sym (tell_the_same ds (waiting (after_all t cs)) (tidied (after_all t cs)) (after_all t cs) twin)
            ∙ ap (λ (u : State). map told (played u ds)) state
            ∙ tell_the_same ds (waiting (resumed m s t cs)) (resumed m s t cs) (with_store store (resumed m s t cs)) (held_twin (resumed m s t cs) store sound holds);
      }

-- ---- of two schedules

pub demand_3 : Demand3
demand_3 b r n one other long long' xs ys m agree all =
    let s : State = scheduled (begun b r n one) xs in
    let t : State = scheduled (begun b r n other) ys in
    let first : Ready (with_queue [] (made b r n)) s = begun_ready b r n one long xs in
    let second : Ready (with_queue [] (made b r n)) t = begun_ready b r n other long' ys in
    demand_3_of_states m s t (first.same ∙ sym second.same) first.sound second.sound agree all

-- the same after each of those blocks
pub demand_3_each : Demand3Each
demand_3_each b r n one other long long' xs ys m agree all k =
    let s : State = scheduled (begun b r n one) xs in
    rw (each_block (behind m s) s all k) at (demand_3 b r n one other long long' xs ys m agree (take k (while_two_wait (behind m s) s all)))
