-- Waiting events and their events: what a list of the first does, the second does too. Assumes nothing.
use Rattle.std.proofs.Common.{Option, Some, None}
use mathlib.Core.Path.{◌≡◌, refl, sym, ap, ap₂, ◌∙◌}
use mathlib.Core.Bool.{Bool, true, false, cond, not, ◌&&◌}
use mathlib.Core.List.{List, [], ◌∷◌, ◌++◌}
use Prim.Native.Nat.{ℕ, zero, suc, ◌+◌}
use native.Mathlib.Omega.{arith}
use lib.ListN.{length, take, drop, get_or, length-append, take-append-drop}
use lib.Ieee as Ieee
use lib.Ieee.{Float}
use Rattle.rules.specs.declared.Event.{Event}
use Rattle.rules.specs.Queue.{Waiting, alone, hold_or, filed_under, length_of, lengths_of, events_of, attached, put_at, inserted, arrived, those, goes_at, is_before, cancelled, sooner, held_event, held_at, is_ramp, runs_at, held_if_running, last_held, is_later, is_not_later, any_covers, holds_ramp, held_by, held}
use Rattle.laws.specs.Search.{place_of}
use Rattle.laws.proofs.Tests.{never, both}
use Rattle.laws.proofs.Order.{lt_le, le_not_lt}

-- ---- lists

pub events_length : (ws : List Waiting) → length (events_of ws) ≡ length ws
unfolding events_of
events_length [] = refl
events_length (w ∷ ws) = ap suc (events_length ws)

pub events_one : (w : Waiting) → events_of (w ∷ []) ≡ w.event ∷ []
unfolding events_of
events_one w = refl

pub events_append : (xs ys : List Waiting) → events_of (xs ++ ys) ≡ events_of xs ++ events_of ys
unfolding events_of
events_append [] ys = refl
events_append (x ∷ xs) ys = ap (λ (l : List Event). x.event ∷ l) (events_append xs ys)

pub events_take : (n : ℕ) (ws : List Waiting) → events_of (take n ws) ≡ take n (events_of ws)
unfolding events_of
events_take zero ws = refl
events_take (suc n) [] = refl
events_take (suc n) (w ∷ ws) = ap (λ (l : List Event). w.event ∷ l) (events_take n ws)

pub events_drop : (n : ℕ) (ws : List Waiting) → events_of (drop n ws) ≡ drop n (events_of ws)
unfolding events_of
events_drop zero ws = refl
events_drop (suc n) [] = refl
events_drop (suc n) (w ∷ ws) = events_drop n ws

pub events_get : (ws : List Waiting) (n : ℕ) (w : Waiting) → get_or (events_of ws) n w.event ≡ (get_or ws n w).event
unfolding events_of
events_get [] n w = refl
events_get (x ∷ ws) zero w = refl
events_get (x ∷ ws) (suc n) w = events_get ws n w

pub events_attached : (q : List Event) (store : List Float) → events_of (attached q store) ≡ q
unfolding events_of attached
events_attached [] store = refl
events_attached (e ∷ q) store = ap (λ (l : List Event). e ∷ l) (events_attached q (drop (length_of e) store))

pub lengths_append : (p q : List Event) → lengths_of (p ++ q) ≡ lengths_of p + lengths_of q
unfolding lengths_of
lengths_append [] q = omega arith
lengths_append (e ∷ p) q = rw (lengths_append p q) (omega arith)

pub lengths_split : (n : ℕ) (q : List Event) → lengths_of (take n q) + lengths_of (drop n q) ≡ lengths_of q
lengths_split n q = sym (lengths_append (take n q) (drop n q)) ∙ ap lengths_of (take-append-drop n q)

-- ---- arrival

pub put-length : {A : Type 0} (n : ℕ) (x : A) (xs : List A) → length (put_at n x xs) ≡ suc (length xs)
unfolding put_at
put-length n x xs = let e : length (take n xs ++ drop n xs) ≡ length xs = ap length (take-append-drop n xs) in simp length-append (omega (arith, simp length-append at e))

pub put_lengths : (n : ℕ) (e : Event) (q : List Event) → lengths_of (put_at n e q) ≡ length_of e + lengths_of q
unfolding put_at lengths_of
put_lengths n e q = rw (lengths_append (take n q) (e ∷ drop n q)) (omega (arith, lengths_split n q))

pub events_put : (n : ℕ) (w : Waiting) (ws : List Waiting) → events_of (put_at n w ws) ≡ put_at n w.event (events_of ws)
unfolding put_at events_of
events_put n w ws = rw (events_append (take n ws) (w ∷ drop n ws), events_take, events_drop)

-- a waiting event goes where its event would
pub events_inserted : (w : Waiting) (ws : List Waiting) → events_of (inserted w ws) ≡ arrived w.event (events_of ws)
unfolding inserted arrived
events_inserted w ws = events_put _ w ws

-- ---- tests that read the event alone

pub events_those : (test : Event → Bool) (ws : List Waiting) → events_of (those (λ w. test w.event) ws) ≡ those test (events_of ws)
unfolding events_of those
events_those test [] = refl
events_those test (w ∷ ws) = go (test w.event) (events_those test ws)
  where
    more : List Waiting
    more = those (λ w. test w.event) ws

    go : (b : Bool) → events_of more ≡ those test (events_of ws)
        → events_of (cond b (w ∷ more) more) ≡ cond b (w.event ∷ those test (events_of ws)) (those test (events_of ws))
    go true h = ap (λ (l : List Event). w.event ∷ l) h
    go false h = h

pub place_events : (test : Event → Bool) (ws : List Waiting) → place_of (λ w. test w.event) ws ≡ place_of test (events_of ws)
unfolding events_of place_of
place_events test [] = refl
place_events test (w ∷ ws) = ap (λ (n : ℕ). cond (test w.event) 0 (suc n)) (place_events test ws)

pub events_cancelled : (c : Float) (ws : List Waiting) → events_of (cancelled c ws) ≡ those (λ e. not (goes_at c e)) (events_of ws)
unfolding cancelled is_before
events_cancelled c ws = events_those (λ e. not (goes_at c e)) ws

-- ---- a hold: what is no ramp keeps the time that it is filed under, a later ramp is filed under c; every event keeps its numbers

-- a target or a curve is no ramp
pub runs_no_ramp : (c : Float) (e : Event) → runs_at c e ≡ true → is_ramp e ≡ false
unfolding runs_at is_ramp
runs_no_ramp c (Event.Step v t) r = refl
runs_no_ramp c (Event.Linear v t k) r = never r
runs_no_ramp c (Event.Exponential v t k) r = never r
runs_no_ramp c (Event.Target v t k m) r = refl
runs_no_ramp c (Event.Curve s d n k) r = refl

pub held_filed : (c : Float) (e : Event) → is_ramp e ≡ false → filed_under (held_event c e) ≡ filed_under e
unfolding held_event filed_under is_ramp
held_filed c (Event.Step v t) n = refl
held_filed c (Event.Linear v t h) n = never (sym n)
held_filed c (Event.Exponential v t h) n = never (sym n)
held_filed c (Event.Target v t k h) n = refl
held_filed c (Event.Curve s d n h) k = refl

sooner_filed : (c t : Float) (h : Option Float) → Ieee.lt c (hold_or h t) ≡ true → hold_or (sooner h c) t ≡ c
unfolding hold_or sooner
sooner_filed c t None l = refl
sooner_filed c t (Some s) l = rw (le_not_lt c s (lt_le c s l))

pub held_ramp_filed : (c : Float) (e : Event) → is_ramp e ≡ true → Ieee.lt c (filed_under e) ≡ true → filed_under (held_event c e) ≡ c
unfolding held_event filed_under is_ramp
held_ramp_filed c (Event.Step v t) r l = never r
held_ramp_filed c (Event.Linear v t h) r l = sooner_filed c t h l
held_ramp_filed c (Event.Exponential v t h) r l = sooner_filed c t h l
held_ramp_filed c (Event.Target v t k h) r l = never r
held_ramp_filed c (Event.Curve s d n h) r l = never r

pub held_by_ramp : (c : Float) (ws : List Waiting) (x : Waiting) → holds_ramp c ws x ≡ true → is_ramp x.event ≡ true
unfolding holds_ramp
held_by_ramp c ws x h = (both (is_ramp x.event) _ h).0

pub held-is_ramp : (c : Float) (e : Event) → is_ramp (held_event c e) ≡ is_ramp e
unfolding held_event is_ramp
held-is_ramp c (Event.Step v t) = refl
held-is_ramp c (Event.Linear v t h) = refl
held-is_ramp c (Event.Exponential v t h) = refl
held-is_ramp c (Event.Target v t k h) = refl
held-is_ramp c (Event.Curve s d n h) = refl

pub held_size : (c : Float) (e : Event) → length_of (held_event c e) ≡ length_of e
unfolding held_event length_of
held_size c (Event.Step v t) = refl
held_size c (Event.Linear v t h) = refl
held_size c (Event.Exponential v t h) = refl
held_size c (Event.Target v t k h) = refl
held_size c (Event.Curve s d n h) = refl

-- ---- a hold reads the events alone

-- events with no numbers
abbrev pub alones : List Event → List Waiting
alones [] = []
alones (e ∷ q) = alone e ∷ alones q

pub events_alones : (q : List Event) → events_of (alones q) ≡ q
unfolding events_of
events_alones [] = refl
events_alones (e ∷ q) = ap (λ (l : List Event). e ∷ l) (events_alones q)

-- what is left of a list, by its numbers left out before or after
abbrev bare : List Waiting → List Waiting
bare ws = alones (events_of ws)

bare-append : (xs ys : List Waiting) → bare (xs ++ ys) ≡ bare xs ++ bare ys
unfolding events_of
bare-append [] ys = refl
bare-append (x ∷ xs) ys = ap (λ (l : List Waiting). alone x.event ∷ l) (bare-append xs ys)

bare-those : (test : Event → Bool) (ws : List Waiting) → those (λ w. test w.event) (bare ws) ≡ bare (those (λ w. test w.event) ws)
unfolding those events_of
bare-those test [] = refl
bare-those test (w ∷ ws) = go (test w.event) _ (those (λ w. test w.event) ws) (bare-those test ws)
  where
    go : (b : Bool) (l m : List Waiting) → l ≡ bare m → cond b (alone w.event ∷ l) l ≡ bare (cond b (w ∷ m) m)
    go true l m h = ap (λ (l : List Waiting). alone w.event ∷ l) h
    go false l m h = h

module _ (c : Float) where
  bare_last : (ws : List Waiting) → last_held c (bare ws) ≡ bare (last_held c ws)
  unfolding last_held events_of held_if_running held_at
  bare_last [] = refl
  bare_last (w ∷ []) = go (runs_at c w.event)
    where
      go : (b : Bool) → cond b (held_at c (alone w.event)) (alone w.event) ∷ [] ≡ alone (cond b (held_at c w) w).event ∷ []
      go true = unfold held_at in refl
      go false = refl
  bare_last (w ∷ x ∷ ws) = ap (λ (l : List Waiting). alone w.event ∷ l) (bare_last (x ∷ ws))

  bare-held_by : (early late : List Waiting) → held_by c (bare early) (bare late) ≡ bare (held_by c early late)
  unfolding held_by holds_ramp events_of held_at
  bare-held_by early [] = bare_last early
  bare-held_by early (x ∷ late) = rw (events_alones (events_of early)) (go (is_ramp x.event && not (any_covers c (events_of early))))
    where
      go : (b : Bool) → cond b (bare early ++ (alone (held_event c x.event) ∷ [])) (last_held c (bare early))
          ≡ bare (cond b (early ++ (held_at c x ∷ [])) (last_held c early))
      go true = unfold held_at events_of in sym (bare-append early (held_at c x ∷ []))
      go false = bare_last early

  pub events_held : (ws : List Waiting) → events_of (held c ws) ≡ events_of (held c (alones (events_of ws)))
  unfolding held is_not_later is_later
  events_held ws =
      let e : those (is_not_later c) (bare ws) ≡ bare (those (is_not_later c) ws) = bare-those (λ e. not (Ieee.lt c (filed_under e))) ws in
      let l : those (is_later c) (bare ws) ≡ bare (those (is_later c) ws) = bare-those (λ e. Ieee.lt c (filed_under e)) ws in
      sym (ap events_of (ap₂ (held_by c) e l ∙ bare-held_by (those (is_not_later c) ws) (those (is_later c) ws)) ∙ events_alones (events_of (held c ws)))
