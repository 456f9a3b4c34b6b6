-- Two states that differ only in what waits behind the shared events: one block, then all blocks while two of the shared still wait. Assumes nothing.
use Rattle.std.proofs.Common.{Ok, Err}
use mathlib.Core.Path.{◌≡◌, refl, sym, ap, ap₂, ◌∙◌}
use mathlib.Core.Bool.{Bool, true, false, cond}
use mathlib.Core.List.{List, [], ◌∷◌, ◌++◌, map}
use Prim.Native.Nat.{◌+◌, ◌≤◌}
use native.Mathlib.Omega.{arith}
use lib.ListN.{length, length-append}
use borrow.Author.Tests.{leb-true, leb-false}
use Rattle.rules.specs.declared.Refusal.{Refusal}
use Rattle.rules.specs.Queue.{Waiting, head_of}
use Rattle.rules.specs.Refusals.{block_rows}
use Rattle.rules.specs.Walk.{Walked}
use Rattle.rules.specs.Block.{Param, Call, Answer, answered, answered_as, answer_of, verdict_of, infos_of}
use Rattle.playing.specs.Play.{State, waiting, answer_to, after, after_all, played, apart}
use Rattle.playing.specs.Demand.{enough, two_wait, while_two_wait}
use Rattle.playing.proofs.Walks.{Alike, rendered_alike}
use Rattle.playing.proofs.States.{bare, SoundState, queue_length, walk_over, said_over, answered_is, answered_waits, refused_leaves, after_sound, by_verdict}

-- the same parameter, and behind the shared events a waits in s and b in t
pub record Beside (a b shared : List Waiting) (s t : State) : Type 0 where
  pub same : bare s ≡ bare t
  pub first : waiting s ≡ shared ++ a
  pub second : waiting t ≡ shared ++ b
  pub sound_first : SoundState s
  pub sound_second : SoundState t

pub turned_round : {a b shared : List Waiting} {s t : State} → Beside a b shared s t → Beside b a shared t s
turned_round h =
    record { same = sym h.same; first = h.second; second = h.first; sound_first = h.sound_second; sound_second = h.sound_first }

-- a verdict rests on the parameter without its queue, for a store of the right length
pub same_verdict : {a b shared : List Waiting} {s t : State} → Beside a b shared s t → (c : Call)
    → verdict_of t.param t.store c ≡ verdict_of s.param s.store c
unfolding verdict_of block_rows
same_verdict {s} {t} h c =
    let b : s.param.last_block ≡ t.param.last_block = ap (λ (p : Param). p.last_block) h.same in
    let e : s.param.edition ≡ t.param.edition = ap (λ (p : Param). p.edition) h.same in
    rw (h.sound_first.long, h.sound_second.long, b, e)

-- ---- one block

-- it leaves such states, and says the same
record Agree (a b : List Waiting) (s t : State) (c : Call) : Type 0 where
  shared : List Waiting
  left : Beside a b shared (after s c) (after t c)
  heard : apart (answer_to s c) ≡ apart (answer_to t c)

-- what an answered block says rests, waiting events apart, on the head and on what the walk carried
heard-same : (p : Param) (c : Call) (ws vs : List Waiting) (l r : Walked) → head_of ws ≡ head_of vs → l.walk ≡ r.walk
    → apart (answer_of p ws c l) ≡ apart (answer_of p vs c r)
unfolding answer_of apart
heard-same p c ws vs l r h w = rw (h, w)

bare-same : (s t : State) (c : Call) → apart (answer_to s c) ≡ apart (answer_to t c) → bare (after s c) ≡ bare (after t c)
unfolding apart after
bare-same s t c e = ap (λ (x : Answer). x.param) e

module _ (a b shared : List Waiting) (s t : State) (h : Beside a b shared s t) (c : Call) where
  answered_agree : verdict_of s.param s.store c ≡ Ok tt → length a + enough ≤ length (after s c).param.queue → Agree a b s t c
  answered_agree e two =
      let d : verdict_of t.param t.store c ≡ Ok _ = same_verdict h c ∙ e in
      let p : Param = bare s in
      let l : Walked = walk_over p (shared ++ a) c in
      let r : Walked = walk_over p (shared ++ b) c in
      let left : waiting (after s c) ≡ l.queue = answered_waits s c e h.sound_first ∙ ap (λ (ws : List Waiting). (walk_over p ws c).queue) h.first in
      let right : waiting (after t c) ≡ r.queue =
      answered_waits t c d h.sound_second ∙ ap₂ (λ (q : Param) (ws : List Waiting). (walk_over q ws c).queue) (sym h.same) h.second in
      let n : length (after s c).param.queue ≡ length l.queue = queue_length (after s c) ∙ ap length left in
      let both = rendered_alike a b (infos_of p.rate c) p.intrinsic p.last shared (omega arith) in
      let k : Alike a b l r = both.0 in
      let x : answer_to s c ≡ said_over p (shared ++ a) c = answered_is s c e ∙ ap (λ (ws : List Waiting). said_over p ws c) h.first in
      let y : answer_to t c ≡ said_over p (shared ++ b) c =
      answered_is t c d ∙ ap₂ (λ (q : Param) (ws : List Waiting). said_over q ws c) (sym h.same) h.second in
      let said : apart (answer_to s c) ≡ apart (answer_to t c) = rw (x, y) (heard-same p c _ _ l r both.1 k.same) in
      record {
        shared = k.shared;
        left =
            record {
              same = bare-same s t c said;
              first = left ∙ k.first;
              second = right ∙ k.second;
              sound_first = after_sound s c h.sound_first;
              sound_second = after_sound t c h.sound_second;
            };
        heard = said;
      }

  refused_agree : (why : Refusal) → verdict_of s.param s.store c ≡ Err why → Agree a b s t c
  unfolding answer_to answered answered_as apart
  refused_agree why e =
      let d : verdict_of t.param t.store c ≡ Err why = same_verdict h c ∙ e in
      record {
        shared = shared;
        left = rw (refused_leaves s c why e, refused_leaves t c why d) h;
        heard = rw (e, d) (ap (λ (p : Param). apart (answered_as (Err why) p [] c)) h.same);
      }

  one_block : length a + enough ≤ length (after s c).param.queue → Agree a b s t c
  one_block two = by_verdict (verdict_of s.param s.store c) (λ e. answered_agree e two) refused_agree

-- ---- whether two of the shared still wait

in_queue : {a b shared : List Waiting} {s t : State} → Beside a b shared s t → length s.param.queue ≡ length shared + length a
in_queue {a} {b} {shared} {s} h = queue_length s ∙ ap length h.first ∙ length-append shared a

two_in_second : {a b shared : List Waiting} {s t : State} → Beside a b shared s t → (c : Call) → length a + enough ≤ length (after s c).param.queue
    → length b + enough ≤ length (after t c).param.queue
two_in_second {a} {b} {shared} {s} {t} h c two =
    let g : Agree a b s t c = one_block a b shared s t h c two in
    omega (arith, in_queue g.left, in_queue (turned_round g.left))

-- after a block they do in both, or in neither
same_test : {a b shared : List Waiting} {s t : State} → Beside a b shared s t → (c : Call) → two_wait (length b) (after t c) ≡ two_wait (length a) (after s c)
same_test {a} {b} {shared} {s} {t} h c = go (two_wait (length b) (after t c)) (two_wait (length a) (after s c)) refl refl
  where
    go : (x y : Bool) → two_wait (length b) (after t c) ≡ x → two_wait (length a) (after s c) ≡ y → x ≡ y
    go true true d e = refl
    go true false d e = absurd (omega (arith, two_in_second (turned_round h) c (leb-true _ _ d), leb-false))
    go false true d e = absurd (omega (arith, two_in_second h c (leb-true _ _ e), leb-false))
    go false false d e = refl

-- ---- all blocks

module _ (a b : List Waiting) where
  -- of the blocks `all`, cs are those before the first after which fewer than two of the shared wait
  pub record Together (s t : State) (all cs : List Call) : Type 0 where
    pub shared : List Waiting
    pub left : Beside a b shared (after_all s cs) (after_all t cs)
    pub heard : map apart (played s cs) ≡ map apart (played t cs)
    pub second : while_two_wait (length b) t all ≡ cs

  pub all_blocks : (all : List Call) (shared : List Waiting) (s t : State) → Beside a b shared s t → Together s t all (while_two_wait (length a) s all)
  unfolding while_two_wait after_all played
  all_blocks [] shared s t h = record { shared = shared; left = h; heard = refl; second = refl }
  all_blocks (c ∷ all) shared s t h = go (two_wait (length a) (after s c)) refl (λ g. all_blocks all g.shared (after s c) (after t c) g.left)
    where
      cs : List Call
      cs = while_two_wait (length a) (after s c) all

      go : (x : Bool) → two_wait (length a) (after s c) ≡ x → (Agree a b s t c → Together (after s c) (after t c) all cs)
          → Together s t (c ∷ all) (cond x (c ∷ cs) [])
      go true e more =
          let g : Agree a b s t c = one_block a b shared s t h c (leb-true _ _ e) in
          let r : Together (after s c) (after t c) all cs = more g in
          record {
            shared = r.shared;
            left = r.left;
            heard = ap₂ (λ (x : Answer) (xs : List Answer). x ∷ xs) g.heard r.heard;
            second = rw (same_test h c, e) (ap (λ (l : List Call). c ∷ l) r.second);
          }
      go false e more = record { shared = shared; left = h; heard = refl; second = rw (same_test h c, e) }
