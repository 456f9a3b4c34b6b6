-- The queue's invariant is kept by an arrival, a cancel and a hold. Assumes nothing.
use Rattle.std.proofs.Common.{Option, Some, None}
use mathlib.Core.Path.{◌≡◌, refl, sym, ap, ◌∙◌}
use mathlib.Core.Bool.{Bool, true, false, cond, not}
use mathlib.Core.List.{List, [], ◌∷◌, ◌++◌}
use Prim.Native.Nat.{ℕ, suc, ◌+◌, ◌≤◌, ◌<◌}
use native.Mathlib.Omega.{arith}
use borrow.Author.Tests.{not-true}
use lib.ListN.{length, take, drop, length-take, length-drop, length-append}
use lib.Seq.{take-append_seam, append_snoc}
use lib.Ieee as Ieee
use lib.Ieee.{Float, binary64}
use Rattle.rules.specs.declared.Event.{Event}
use Rattle.rules.specs.Numbers.{most_events, store_length}
use Rattle.rules.specs.Queue.{Waiting, hold_or, filed_under, is_ramp, curve_end, any_covers, length_of, lengths_of, events_of, put_at, place_behind, arrived, those, cancelled, sooner, held_event, held_at, runs_at, held_if_running, last_held, is_later, is_not_later, holds_ramp, held_by, held}
use Rattle.laws.specs.Sound.{is_taken, is_taken_if_any, is_held_by, is_held_from, is_span, is_clear, is_due, all, are_clear, are_due, reach_of, goes_before, in_order, SoundQueue}
use Rattle.laws.specs.Apart.{is_apart}
use Rattle.laws.specs.Search.{is_later_than, first_going}
use Rattle.laws.proofs.Tests.{never, both, and}
use Rattle.laws.proofs.Results.{taken-parts, taken_number}
use Rattle.laws.proofs.Order.{le_le, lt_le, not_lt, later_first, later_second, later_up_to}
use Rattle.laws.proofs.Events.{events_one, events_append, events_take, lengths_append, lengths_split, put-length, put_lengths, runs_no_ramp, held_filed, held_ramp_filed, held-is_ramp, held_size}
use Rattle.laws.proofs.Clear.{all-parts, all_more, all_last, all_take, all_drop, all-put, finite_due, Span, span_whole, span_before, linear_parts, exponential_parts, target_parts, curve_parts, curve_whole, clear_number}
use Rattle.laws.proofs.Reach.{end_number, ramp_covers, none_in, free}
use Rattle.laws.proofs.Ordered.{order_parts, order_take, order_drop, behind_is_first_later, arrived_order, events_cut, AllUpTo, arrives_last, early_up_to, AllPass, those_pass, cancelled_is, early_late}

-- ---- a part of the queue

pub empty_sound : SoundQueue []
unfolding in_order all lengths_of
empty_sound = record { few = omega arith; ordered = refl; clear = refl; room = omega arith }

-- fewer events with fewer numbers
part_sound : (p q : List Event) → length p ≤ length q → lengths_of p ≤ lengths_of q → in_order p ≡ true → are_clear p ≡ true → SoundQueue q → SoundQueue p
part_sound p q l m o c s =
    let a : length q ≤ most_events = s.few in
    let b : lengths_of q ≤ store_length = s.room in
    record { few = omega arith; ordered = o; clear = c; room = omega arith }

module _ (n : ℕ) (q : List Event) (s : SoundQueue q) where
  split : lengths_of (take n q) + lengths_of (drop n q) ≡ lengths_of q
  split = lengths_split n q

  pub prefix_sound : SoundQueue (take n q)
  prefix_sound =
      part_sound (take n q) q (rw length-take (omega arith)) (omega (arith, split)) (order_take n q s.ordered) (all_take is_clear n q s.clear) s

  pub suffix_sound : SoundQueue (drop n q)
  suffix_sound =
      part_sound (drop n q) q (rw length-drop (omega arith)) (omega (arith, split)) (order_drop n q s.ordered) (all_drop is_clear n q s.clear) s

-- ---- an arrival

pub arrived_sound : (e : Event) (q : List Event) → is_clear e ≡ true → all (is_apart e) q ≡ true → length q < most_events → lengths_of q + length_of e ≤ store_length → SoundQueue q
    → SoundQueue (arrived e q)
unfolding arrived
arrived_sound e q c f l r s =
    let k : ℕ = place_behind (filed_under e) q in
    let n : length (put_at k e q) ≡ suc (length q) = put-length k e q in
    let m : lengths_of (put_at k e q) ≡ length_of e + lengths_of q = put_lengths k e q in
    record {
      few = omega arith;
      ordered = unfold arrived in arrived_order e q c f s.clear s.ordered;
      clear = all-put is_clear k e q c s.clear;
      room = omega arith;
    }

-- it goes behind all of equal or smaller time, and before all later ones
pub arrived-behind : (e : Event) (q : List Event) → is_clear e ≡ true → SoundQueue q
    → arrived e q ≡ those (λ d. not (is_later_than (filed_under e) d)) q ++ (e ∷ those (is_later_than (filed_under e)) q)
unfolding arrived put_at
arrived-behind e q c s =
    let t : Float = filed_under e in
    let cut = events_cut t q s.ordered in
    rw (behind_is_first_later t q (clear_number e c) s.clear s.ordered, cut.0, cut.1)

-- ---- a cancel

pub cancelled_sound : (c : Float) (ws : List Waiting) → SoundQueue (events_of ws) → SoundQueue (events_of (cancelled c ws))
cancelled_sound c ws s =
    rw (cancelled_is c ws s.ordered, events_take) (prefix_sound (first_going c (events_of ws)) (events_of ws) s)

pub cancelled_due : (played : Bool) (c : Float) (ws : List Waiting) → in_order (events_of ws) ≡ true → are_due played (events_of ws) ≡ true
    → are_due played (events_of (cancelled c ws)) ≡ true
cancelled_due played c ws o d =
    rw (cancelled_is c ws o, events_take) (all_take (is_due played) (first_going c (events_of ws)) (events_of ws) d)

-- ---- a hold: what is no ramp is held where it stands

-- d stands for e in a queue: at its time, and reaching no further
pub record Like (e d : Event) : Type 0 where
  pub filed : filed_under d ≡ filed_under e
  pub size : length_of d ≡ length_of e
  pub clear : is_clear e ≡ true → is_clear d ≡ true
  pub reach : is_clear e ≡ true → (t : Float) → Ieee.le (reach_of e) t ≡ true → Ieee.le (reach_of d) t ≡ true

pub data Likes : List Event → List Event → Type 0 where
  none : Likes [] []
  more : {e d : Event} {p q : List Event} → Like e d → Likes p q → Likes (e ∷ p) (d ∷ q)

like_self : (e : Event) → Like e e
like_self e = record { filed = refl; size = refl; clear = λ h. h; reach = λ k t h. h }

likes_before : (t : Float) (p q : List Event) → Likes p q → goes_before t p ≡ true → goes_before t q ≡ true
unfolding goes_before
likes_before t p q none h = h
likes_before t p q (more l ls) h = rw l.filed h

before-sooner : (e d : Event) (q : List Event) → ((t : Float) → Ieee.le (reach_of e) t ≡ true → Ieee.le (reach_of d) t ≡ true) → goes_before (reach_of e) q ≡ true
    → goes_before (reach_of d) q ≡ true
unfolding goes_before
before-sooner e d [] h k = refl
before-sooner e d (x ∷ q) h k = h (filed_under x) k

likes_order : (p q : List Event) → Likes p q → are_clear p ≡ true → in_order p ≡ true → in_order q ≡ true
unfolding in_order
likes_order p q none c h = h
likes_order p q (more {e = e} {d = d} {p = p'} {q = q'} l ls) c h =
    let a = order_parts e p' h in
    let k = all-parts is_clear e p' c in
    and (likes_before _ p' q' ls (before-sooner e d p' (l.reach k.0) a.0)) (likes_order p' q' ls k.1 a.1)

same_due : (played : Bool) (e d : Event) → filed_under d ≡ filed_under e → is_due played e ≡ true → is_due played d ≡ true
unfolding is_due
same_due played e d f h = rw f h

-- a test that the like of an event passes, too
likes_all : (test : Event → Bool) → ((e d : Event) → Like e d → test e ≡ true → test d ≡ true) → (p q : List Event) → Likes p q → all test p ≡ true → all test q ≡ true
likes_all test step p q none h = h
likes_all test step p q (more {e = e} {d = d} {p = p'} {q = q'} l ls) h =
    let a = all-parts test e p' h in all_more test d q' (step e d l a.0) (likes_all test step p' q' ls a.1)

likes_length : (p q : List Event) → Likes p q → length q ≡ length p
likes_length p q none = refl
likes_length p q (more {p = p'} {q = q'} l ls) = ap suc (likes_length p' q' ls)

likes_lengths : (p q : List Event) → Likes p q → lengths_of q ≡ lengths_of p
unfolding lengths_of
likes_lengths p q none = refl
likes_lengths p q (more {p = p'} {q = q'} l ls) = rw (l.size, likes_lengths p' q' ls)

pub likes_sound : (p q : List Event) → Likes p q → SoundQueue p → SoundQueue q
likes_sound p q l s =
    record {
      few = rw (likes_length p q l) s.few;
      ordered = likes_order p q l s.clear s.ordered;
      clear = likes_all is_clear (λ e d m. m.clear) p q l s.clear;
      room = rw (likes_lengths p q l) s.room;
    }

module _ (c : Float) (taken : is_taken c ≡ true) where
  sooner-taken : (h : Option Float) → is_taken_if_any h ≡ true → is_taken_if_any (sooner h c) ≡ true
  unfolding sooner is_taken_if_any
  sooner-taken None k = taken
  sooner-taken (Some t) k = go (Ieee.lt t c)
    where
      go : (b : Bool) → is_taken_if_any (cond b (Some t) (Some c)) ≡ true
      go true = unfold is_taken_if_any in k
      go false = unfold is_taken_if_any in taken

  sooner-held : (t : Float) (h : Option Float) → Ieee.le c t ≡ true → is_held_by t h ≡ true → is_held_by t (sooner h c) ≡ true
  unfolding sooner is_held_by
  sooner-held t None l k = l
  sooner-held t (Some s) l k = go (Ieee.lt s c)
    where
      go : (b : Bool) → is_held_by t (cond b (Some s) (Some c)) ≡ true
      go true = unfold is_held_by in k
      go false = unfold is_held_by in l

  sooner_span : (t : Float) (h : Option Float) → Ieee.le c (hold_or h t) ≡ true → Span t h → is_span t (sooner h c) ≡ true
  sooner_span t h l s =
      let before : Ieee.le c t ≡ true = le_le c (hold_or h t) t l (span_before t h s) in
      span_whole t (sooner h c) record { time = s.time; hold = sooner-taken h s.hold; before = sooner-held t h before s.before }

  -- a ramp that is held where it is filed under a later time is held before its own
  ramp_clear : (e : Event) → is_ramp e ≡ true → Ieee.le c (filed_under e) ≡ true → is_clear e ≡ true → is_clear (held_event c e) ≡ true
  unfolding held_event is_clear is_ramp filed_under
  ramp_clear (Event.Step v t) r l k = never r
  ramp_clear (Event.Linear v t h) r l k = let a = linear_parts v t h k in and a.0 (sooner_span t h l a.1)
  ramp_clear (Event.Exponential v t h) r l k = let a = exponential_parts v t h k in and a.0 (and a.1 (sooner_span t h l a.2))
  ramp_clear (Event.Target v t m h) r l k = never r
  ramp_clear (Event.Curve s d n h) r l k = never r

  -- a target or curve at or before c is held at its time or later
  sooner_from : (s : Float) (h : Option Float) → Ieee.le s c ≡ true → is_held_from s h ≡ true → is_held_from s (sooner h c) ≡ true
  unfolding sooner is_held_from
  sooner_from s None l k = l
  sooner_from s (Some t) l k = go (Ieee.lt t c)
    where
      go : (b : Bool) → is_held_from s (cond b (Some t) (Some c)) ≡ true
      go true = unfold is_held_from in k
      go false = unfold is_held_from in l

  running_clear : (e : Event) → runs_at c e ≡ true → Ieee.le (filed_under e) c ≡ true → is_clear e ≡ true → is_clear (held_event c e) ≡ true
  unfolding held_event runs_at filed_under
  running_clear (Event.Step v t) r l k = never r
  running_clear (Event.Linear v t h) r l k = never r
  running_clear (Event.Exponential v t h) r l k = never r
  running_clear (Event.Target v t m h) r l k =
      let a = target_parts v t m h k in
      unfold is_clear in and a.value (and a.time (and a.constant (sooner-taken h a.hold)))
  running_clear (Event.Curve s d n h) r l k =
      let a = curve_parts s d n h k in
      curve_whole s d n (sooner h c)
      record {
        start = a.start;
        duration = a.duration;
        hold = sooner-taken h a.hold;
        from = sooner_from s h l a.from;
        by = sooner-held (Ieee.add binary64 s d) h (lt_le c (Ieee.add binary64 s d) r) a.by;
        enough = a.enough;
      }

  -- and ends no later
  sooner_end : (s d : Float) (h : Option Float) (t : Float) → Ieee.lt c (Ieee.add binary64 s d) ≡ true → is_taken_if_any h ≡ true → Ieee.le (curve_end s d h) t ≡ true
      → Ieee.le (curve_end s d (sooner h c)) t ≡ true
  unfolding curve_end sooner hold_or is_taken_if_any
  sooner_end s d None t r k l = le_le c (Ieee.add binary64 s d) t (lt_le c (Ieee.add binary64 s d) r) l
  sooner_end s d (Some x) t r k l = go (Ieee.lt x c) refl
    where
      go : (b : Bool) → Ieee.lt x c ≡ b → Ieee.le (hold_or (cond b (Some x) (Some c)) (Ieee.add binary64 s d)) t ≡ true
      go true m = unfold hold_or in l
      go false m = unfold hold_or in le_le c x t (not_lt x c (taken_number x k) (taken_number c taken) m) l

  running_reach : (e : Event) → runs_at c e ≡ true → is_clear e ≡ true → (t : Float) → Ieee.le (reach_of e) t ≡ true → Ieee.le (reach_of (held_event c e)) t ≡ true
  unfolding held_event runs_at reach_of filed_under
  running_reach (Event.Step v u) r k t l = never r
  running_reach (Event.Linear v u h) r k t l = never r
  running_reach (Event.Exponential v u h) r k t l = never r
  running_reach (Event.Target v u m h) r k t l = l
  running_reach (Event.Curve s d n h) r k t l =
      let a = curve_parts s d n h k in
      let before : Ieee.le (curve_end s d h) t ≡ true = later_second s (curve_end s d h) t (taken_number s a.start) (end_number s d n h a) l in
      later_up_to s (curve_end s d (sooner h c)) t (later_first s (curve_end s d h) t l) (sooner_end s d h t r a.hold before)

  running_like : (w : Waiting) → Ieee.le (filed_under w.event) c ≡ true → Like w.event (held_if_running c w).event
  unfolding held_if_running
  running_like w l = go (runs_at c w.event) refl
    where
      go : (b : Bool) → runs_at c w.event ≡ b → Like w.event (cond b (held_at c w) w).event
      go true r =
          unfold held_at in
          record {
            filed = held_filed c w.event (runs_no_ramp c w.event r);
            size = held_size c w.event;
            clear = running_clear w.event r l;
            reach = running_reach w.event r;
          }
      go false r = like_self w.event

  last_likes : (ws : List Waiting) → AllUpTo c (events_of ws) → Likes (events_of ws) (events_of (last_held c ws))
  unfolding events_of last_held
  last_likes [] u = none
  last_likes (w ∷ []) u = more (running_like w u.0) none
  last_likes (w ∷ x ∷ ws) u = more (like_self w.event) (last_likes (x ∷ ws) u.1)

  -- ---- a hold: a later ramp is filed under c

  -- it stands where it would if it arrived now: behind all of equal or smaller time
  pub held_arrives : (ws : List Waiting) (x : Waiting) → is_ramp x.event ≡ true → Ieee.lt c (filed_under x.event) ≡ true → AllUpTo c (events_of ws)
      → events_of (ws ++ (held_at c x ∷ [])) ≡ arrived (held_event c x.event) (events_of ws)
  unfolding held_at
  held_arrives ws x r l up =
      let is : filed_under (held_event c x.event) ≡ c = held_ramp_filed c x.event r l in
      rw (events_append ws (held_at c x ∷ []), events_one, arrives_last (held_event c x.event) (events_of ws) (rw is up))

  -- What is kept by a part in front, by like events in their places and by a ramp that arrives anew, inside no curve, a hold keeps.
  module _ (P : List Event → Type 0) (part : (n : ℕ) (q : List Event) → P q → P (take n q)) (like : (p q : List Event) → Likes p q → P p → P q)
      (moves : (q : List Event) (e : Event) → Ieee.lt c (filed_under e) ≡ true → is_ramp e ≡ true → any_covers c q ≡ false → P (q ++ (e ∷ []))
      → P (arrived (held_event c e) q)) where
    front : (ws xs : List Waiting) → P (events_of (ws ++ xs)) → P (events_of ws)
    front ws xs h =
        let e : take (length ws) (events_of (ws ++ xs)) ≡ events_of ws = sym (events_take (length ws) (ws ++ xs)) ∙ ap events_of (take-append_seam ws xs) in
        rw e at (part (length ws) (events_of (ws ++ xs)) h)

    -- by the events at or before c and those later
    held_by_keeps : (early late : List Waiting) → AllUpTo c (events_of early) → AllPass (is_later c) late → P (events_of (early ++ late)) → P (events_of (held_by c early late))
    unfolding held_by is_later
    held_by_keeps early [] up a h = like (events_of early) _ (last_likes early up) (front early [] h)
    held_by_keeps early (x ∷ late) up a h = go (holds_ramp c early x) refl
      where
        with_ramp : P (events_of early ++ (x.event ∷ []))
        with_ramp = rw (events_append early (x ∷ []), events_one) at (front (early ++ (x ∷ [])) late (rw (append_snoc early x late) h))

        go : (b : Bool) → holds_ramp c early x ≡ b → P (events_of (cond b (early ++ (held_at c x ∷ [])) (last_held c early)))
        go true r =
            let s = both (is_ramp x.event) (not (any_covers c (events_of early))) (unfold holds_ramp in r) in
            rw (held_arrives early x s.0 a.0 up) (moves (events_of early) x.event a.0 s.0 (not-true _ s.1) with_ramp)
        go false r = like (events_of early) _ (last_likes early up) (front early (x ∷ late) h)

    pub held_keeps : (ws : List Waiting) → in_order (events_of ws) ≡ true → are_clear (events_of ws) ≡ true → P (events_of ws) → P (events_of (held c ws))
    unfolding held
    held_keeps ws o k h =
        held_by_keeps (those (is_not_later c) ws) (those (is_later c) ws) (early_up_to c ws o (taken_number c taken) k) (those_pass (is_later c) ws) (rw (early_late c ws o) h)

  -- it lies inside none of these, and has none inside
  pub moves_free : (q : List Event) (e : Event) → Ieee.lt c (filed_under e) ≡ true → is_ramp e ≡ true → any_covers c q ≡ false → all (is_apart (held_event c e)) q ≡ true
  moves_free q e l r o =
      free (held_event c e) q (rw (held_ramp_filed c e r l) o) (none_in (held_event c e) (λ t. ramp_covers t (held_event c e) (held-is_ramp c e ∙ r)) q)

  pub moves_sound : (q : List Event) (e : Event) → Ieee.lt c (filed_under e) ≡ true → is_ramp e ≡ true → any_covers c q ≡ false → SoundQueue (q ++ (e ∷ []))
      → SoundQueue (arrived (held_event c e) q)
  unfolding lengths_of
  moves_sound q e l r o s =
      let k = both (are_clear q) (is_clear e) (rw (all_last is_clear q e) at s.clear) in
      let few : length q + 1 ≤ most_events = rw length-append at s.few in
      let room : lengths_of q + lengths_of (e ∷ []) ≤ store_length = rw (lengths_append q (e ∷ [])) at s.room in
      arrived_sound (held_event c e) q
      (ramp_clear e r (lt_le c (filed_under e) l) k.1)
      (moves_free q e l r o)
      (omega arith)
      (rw (held_size c e) (omega arith))
      (rw (take-append_seam q (e ∷ [])) at (prefix_sound (length q) (q ++ (e ∷ [])) s))

  pub held_sound : (ws : List Waiting) → SoundQueue (events_of ws) → SoundQueue (events_of (held c ws))
  held_sound ws s = held_keeps SoundQueue prefix_sound likes_sound moves_sound ws s.ordered s.clear s

  module _ (played : Bool) where
    moves_due : (q : List Event) (e : Event) → Ieee.lt c (filed_under e) ≡ true → is_ramp e ≡ true → any_covers c q ≡ false → are_due played (q ++ (e ∷ [])) ≡ true
        → are_due played (arrived (held_event c e) q) ≡ true
    unfolding arrived
    moves_due q e l r o h =
        let k = both (are_due played q) (is_due played e) (rw (all_last (is_due played) q e) at h) in
        all-put (is_due played) _ (held_event c e) q (finite_due played (held_event c e) (rw (held_ramp_filed c e r l) (taken-parts c taken).0)) k.0

    pub held_due : (ws : List Waiting) → SoundQueue (events_of ws) → are_due played (events_of ws) ≡ true → are_due played (events_of (held c ws)) ≡ true
    held_due ws s d =
        held_keeps (λ q. are_due played q ≡ true) (all_take (is_due played)) (likes_all (is_due played) (λ e d m h. same_due played e d m.filed h)) moves_due ws s.ordered s.clear d
