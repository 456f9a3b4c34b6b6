-- Before the first block no event lies inside a curve (02, C-14): each call keeps it. Assumes nothing.
use mathlib.Core.Path.{◌≡◌, refl}
use mathlib.Core.Bool.{true, false}
use mathlib.Core.List.{List, [], ◌∷◌, ◌++◌}
use Prim.Native.Nat.{ℕ, zero, suc}
use lib.ListN.{length, take}
use lib.Seq.{take-append_seam}
use lib.Ieee as Ieee
use lib.Ieee.{Float}
use Rattle.rules.specs.declared.Event.{Event}
use Rattle.rules.specs.Queue.{Waiting, filed_under, is_ramp, covers, any_covers, events_of, put_at, arrived, cancelled, held_event, held}
use Rattle.laws.specs.Sound.{is_number, is_taken, is_clear, all, are_clear, reach_of, in_order, SoundQueue}
use Rattle.laws.specs.Search.{first_going}
use Rattle.laws.specs.Apart.{is_apart, are_apart}
use Rattle.laws.proofs.Tests.{both, and}
use Rattle.laws.proofs.Order.{le_not_lt}
use Rattle.laws.proofs.Clear.{all-parts, all_more, all_take, all-put, clear_number}
use Rattle.laws.proofs.Reach.{not_covered, uncovered, apart_parts, apart-whole, apart_sym}
use Rattle.laws.proofs.Events.{events_take}
use Rattle.laws.proofs.Ordered.{cancelled_is}
use Rattle.laws.proofs.Queues.{prefix_sound, Like, Likes, none, more, likes_sound, held_keeps, moves_free, moves_sound}

-- ---- a part, and one more

apart_both : (e : Event) (q : List Event) → are_apart (e ∷ q) ≡ true → (all (is_apart e) q ≡ true) × (are_apart q ≡ true)
unfolding are_apart
apart_both e q h = both (all (is_apart e) q) (are_apart q) h

apart-take : (n : ℕ) (q : List Event) → are_apart q ≡ true → are_apart (take n q) ≡ true
unfolding are_apart
apart-take zero q h = refl
apart-take (suc n) [] h = refl
apart-take (suc n) (e ∷ q) h = let a = apart_both e q h in and (all_take (is_apart e) n q a.0) (apart-take n q a.1)

apart-put : (n : ℕ) (e : Event) (q : List Event) → all (is_apart e) q ≡ true → are_apart q ≡ true → are_apart (put_at n e q) ≡ true
unfolding are_apart put_at
apart-put zero e q f h = and f h
apart-put (suc n) e [] f h = and f h
apart-put (suc n) e (d ∷ q) f h =
    let g = all-parts (is_apart e) d q f in
    let a = apart_both d q h in
    and (unfold put_at in all-put (is_apart d) n e q (apart_sym e d g.0) a.0) (unfold put_at in apart-put n e q g.1 a.1)

pub arrived-apart : (e : Event) (q : List Event) → all (is_apart e) q ≡ true → are_apart q ≡ true → are_apart (arrived e q) ≡ true
unfolding arrived
arrived-apart e q f h = apart-put _ e q f h

-- ---- a cancel, and a hold

pub cancelled-apart : (c : Float) (ws : List Waiting) → in_order (events_of ws) ≡ true → are_apart (events_of ws) ≡ true → are_apart (events_of (cancelled c ws)) ≡ true
cancelled-apart c ws o h = rw (cancelled_is c ws o, events_take) (apart-take (first_going c (events_of ws)) (events_of ws) h)

-- what reaches no further has nothing more inside
like_covers : (t : Float) (e d : Event) → is_number t ≡ true → is_clear e ≡ true → Like e d → covers t e ≡ false → covers t d ≡ false
like_covers t e d n k l h =
    not_covered t d (λ m. le_not_lt (reach_of d) t (l.reach k t (uncovered t e n k h (rw l.filed at m))))

like_apart : (e d x y : Event) → is_clear e ≡ true → is_clear x ≡ true → Like e d → Like x y → is_apart e x ≡ true → is_apart d y ≡ true
like_apart e d x y k m l r h =
    let a = apart_parts e x h in
    apart-whole d y
    (rw l.filed (like_covers (filed_under e) x y (clear_number e k) m r a.0))
    (rw r.filed (like_covers (filed_under x) e d (clear_number x m) k l a.1))

likes_free : (e d : Event) (p q : List Event) → is_clear e ≡ true → are_clear p ≡ true → Like e d → Likes p q → all (is_apart e) p ≡ true → all (is_apart d) q ≡ true
likes_free e d p q k m l none h = unfold all in refl
likes_free e d p q k m l (more {e = x} {d = y} {p = p'} {q = q'} r rs) h =
    let a = all-parts (is_apart e) x p' h in
    let b = all-parts is_clear x p' m in
    all_more (is_apart d) y q' (like_apart e d x y k b.0 l r a.0) (likes_free e d p' q' k b.1 l rs a.1)

likes_apart : (p q : List Event) → Likes p q → are_clear p ≡ true → are_apart p ≡ true → are_apart q ≡ true
unfolding are_apart
likes_apart p q none k h = h
likes_apart p q (more {e = e} {d = d} {p = p'} {q = q'} l ls) k h =
    let a = apart_both e p' h in
    let b = all-parts is_clear e p' k in
    and (likes_free e d p' q' b.0 b.1 l ls a.0) (likes_apart p' q' ls b.1 a.1)

module _ (c : Float) (taken : is_taken c ≡ true) where
  abbrev Both : List Event → Type 0
  Both q = SoundQueue q × (are_apart q ≡ true)

  moves_both : (q : List Event) (e : Event) → Ieee.lt c (filed_under e) ≡ true → is_ramp e ≡ true → any_covers c q ≡ false → Both (q ++ (e ∷ [])) → Both (arrived (held_event c e) q)
  moves_both q e l r o h =
      (moves_sound c taken q e l r o h.0, arrived-apart (held_event c e) q (moves_free c taken q e l r o) (rw (take-append_seam q (e ∷ [])) at (apart-take (length q) (q ++ (e ∷ [])) h.1)))

  pub held-apart : (ws : List Waiting) → SoundQueue (events_of ws) → are_apart (events_of ws) ≡ true → are_apart (events_of (held c ws)) ≡ true
  held-apart ws s h =
      (held_keeps c taken Both
      (λ n q b. (prefix_sound n q b.0, apart-take n q b.1))
      (λ p q l b. (likes_sound p q l b.0, likes_apart p q l b.0.clear b.1))
      moves_both
      ws s.ordered s.clear (s, h)).1
