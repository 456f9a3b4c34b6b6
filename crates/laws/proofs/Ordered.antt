-- A queue in order: inserting behind is inserting before the first later one; what cancel and hold keep is a prefix. Assumes nothing.
use mathlib.Core.Path.{◌≡◌, refl, sym, ap, ◌∙◌}
use mathlib.Core.Bool.{Bool, true, false, cond, not, ◌||◌}
use mathlib.Core.List.{List, [], ◌∷◌, ◌++◌}
use Prim.Native.Nat.{ℕ, zero, suc, ◌<◌}
use native.Mathlib.Omega.{arith}
use lib.ListN.{length, take, drop, get_or, drop_of_length-le, take-append-drop}
use lib.Seq.{take-length, take-suc}
use borrow.Author.Tests.{not-true}
use lib.Ieee as Ieee
use lib.Ieee.{Float}
use Rattle.rules.specs.declared.Event.{Event}
use Rattle.rules.specs.Queue.{Waiting, alone, filed_under, covers, events_of, has_not_later, place_behind, put_at, arrived, those, lasts_to, goes_at, is_before, cancelled, held_event, held_at, runs_at, held_if_running, last_held, is_later, is_not_later, held_by, held}
use Rattle.laws.specs.Sound.{is_number, is_clear, all, are_clear, reach_of, goes_before, in_order}
use Rattle.laws.specs.Apart.{is_apart}
use Rattle.laws.specs.Search.{place_of, is_later_than, first_later, first_going}
use Rattle.laws.proofs.Tests.{clash, both, and}
use Rattle.laws.proofs.Order.{le_le, lt_le, not_lt, le_not_lt, lt_not_le, le_lt, lt_le_lt}
use Rattle.laws.proofs.Clear.{all-parts, all_take, clear_number}
use Rattle.laws.proofs.Reach.{filed_before, lasts_up_to, uncovered, apart_parts}
use Rattle.laws.proofs.Events.{events_one, events_take, events_drop, events_append, events_get, events_those, place_events, alones, events_alones}

-- ---- in order, and from a time on

abbrev pub AllFrom : Float → List Event → Type 0
AllFrom t [] = Unit {0}
AllFrom t (e ∷ es) = (Ieee.le t (filed_under e) ≡ true) × AllFrom t es

-- what a queue's first event reaches at most, and the others in order
pub order_parts : (e : Event) (q : List Event) → in_order (e ∷ q) ≡ true → (goes_before (reach_of e) q ≡ true) × (in_order q ≡ true)
unfolding in_order
order_parts e q o = both (goes_before (reach_of e) q) (in_order q) o

from_weaker : (s u : Float) (q : List Event) → ((t : Float) → Ieee.le s t ≡ true → Ieee.le u t ≡ true) → AllFrom s q → AllFrom u q
from_weaker s u [] w f = tt
from_weaker s u (e ∷ q) w f = (w (filed_under e) f.0, from_weaker s u q w f.1)

-- so the first event reaches no further than any of theirs, and its time is at or before them
order_reach : (e : Event) (q : List Event) → in_order (e ∷ q) ≡ true → AllFrom (reach_of e) q
order_reach e [] o = tt
order_reach e (d ∷ q) o =
    let a = order_parts e (d ∷ q) o in
    let l : Ieee.le (reach_of e) (filed_under d) ≡ true = unfold goes_before in a.0 in
    (l, from_weaker (reach_of d) (reach_of e) q (λ t h. le_le (reach_of e) (filed_under d) t l (filed_before d t h)) (order_reach d q a.1))

pub order_from : (e : Event) (q : List Event) → in_order (e ∷ q) ≡ true → AllFrom (filed_under e) q
order_from e q o = from_weaker (reach_of e) (filed_under e) q (filed_before e) (order_reach e q o)

pub order_drop : (n : ℕ) (q : List Event) → in_order q ≡ true → in_order (drop n q) ≡ true
order_drop zero q o = o
order_drop (suc n) [] o = o
order_drop (suc n) (e ∷ q) o = order_drop n q (order_parts e q o).1

pub before-take : (t : Float) (n : ℕ) (q : List Event) → goes_before t q ≡ true → goes_before t (take n q) ≡ true
unfolding goes_before
before-take t zero q h = refl
before-take t (suc n) [] h = refl
before-take t (suc n) (e ∷ q) h = h

pub order_take : (n : ℕ) (q : List Event) → in_order q ≡ true → in_order (take n q) ≡ true
unfolding in_order
order_take zero q o = refl
order_take (suc n) [] o = refl
order_take (suc n) (e ∷ q) o =
    let a = order_parts e q o in and (before-take (reach_of e) n q a.0) (order_take n q a.1)

-- ---- arrival

-- no event of these is at or before t, where all are at or after a later time
none_earlier : (t s : Float) (q : List Event) → Ieee.lt t s ≡ true → AllFrom s q → has_not_later t q ≡ false
unfolding has_not_later
none_earlier t s [] h f = refl
none_earlier t s (e ∷ q) h f =
    rw (lt_not_le t (filed_under e) (lt_le_lt t s (filed_under e) h f.0), none_earlier t s q h f.1)

-- behind the last event of equal or smaller time is before the first later one
pub behind_is_first_later : (t : Float) (q : List Event) → is_number t ≡ true → are_clear q ≡ true → in_order q ≡ true → place_behind t q ≡ first_later t q
unfolding place_behind first_later place_of is_later_than has_not_later
behind_is_first_later t [] n c o = refl
behind_is_first_later t (e ∷ q) n c o =
    let a = all-parts is_clear e q c in
    let r = order_parts e q o in
    go
    (Ieee.lt t (filed_under e))
    refl
    (clear_number e a.0)
    (order_from e q o)
    (behind_is_first_later t q n a.1 r.1)
  where
    go : (b : Bool) → Ieee.lt t (filed_under e) ≡ b → is_number (filed_under e) ≡ true → AllFrom (filed_under e) q → place_behind t q ≡ place_of (is_later_than t) q
        → cond (Ieee.le (filed_under e) t || has_not_later t q) (suc (place_behind t q)) 0 ≡ cond b 0 (suc (place_of (is_later_than t) q))
    go true h m f k = rw (lt_not_le t (filed_under e) h, none_earlier t (filed_under e) q h f)
    go false h m f k = rw (not_lt t (filed_under e) n m h, k)

-- so an arrival keeps the order
arrives : (b : Bool) (k : ℕ) (e d : Event) (q : List Event) → put_at (cond b 0 (suc k)) e (d ∷ q) ≡ cond b (e ∷ d ∷ q) (d ∷ put_at k e q)
unfolding put_at
arrives true k e d q = refl
arrives false k e d q = refl

before-put : (t : Float) (k : ℕ) (e : Event) (q : List Event) → Ieee.le t (filed_under e) ≡ true → goes_before t q ≡ true → goes_before t (put_at k e q) ≡ true
unfolding put_at goes_before
before-put t zero e q h g = h
before-put t (suc k) e [] h g = h
before-put t (suc k) e (d ∷ q) h g = g

-- what has no event's time inside and lies inside none, goes between two of them
put_order : (e : Event) (q : List Event) → is_clear e ≡ true → all (is_apart e) q ≡ true → are_clear q ≡ true → in_order q ≡ true
    → in_order (put_at (first_later (filed_under e) q) e q) ≡ true
unfolding first_later place_of is_later_than in_order goes_before
put_order e [] k f c o = unfold put_at in refl
put_order e (d ∷ q) k f c o =
    let a = all-parts is_clear d q c in
    let g = all-parts (is_apart e) d q f in
    let r = order_parts d q o in
    rw (arrives (Ieee.lt (filed_under e) (filed_under d)) (place_of (is_later_than (filed_under e)) q) e d q)
    (go (Ieee.lt (filed_under e) (filed_under d)) refl a.0 (apart_parts e d g.0) r (put_order e q k g.1 a.1 r.1))
  where
    n : ℕ
    n = place_of (is_later_than (filed_under e)) q

    go : (b : Bool) → Ieee.lt (filed_under e) (filed_under d) ≡ b → is_clear d ≡ true → (covers (filed_under e) d ≡ false) × (covers (filed_under d) e ≡ false)
        → (goes_before (reach_of d) q ≡ true) × (in_order q ≡ true) → in_order (put_at n e q) ≡ true
        → in_order (cond b (e ∷ d ∷ q) (d ∷ put_at n e q)) ≡ true
    go true l m g r i = and (uncovered (filed_under d) e (clear_number d m) k g.1 (lt_le (filed_under e) (filed_under d) l)) (and r.0 r.1)
    go false l m g r i =
        let up : Ieee.le (filed_under d) (filed_under e) ≡ true = not_lt (filed_under e) (filed_under d) (clear_number e k) (clear_number d m) l in
        and (before-put (reach_of d) n e q (uncovered (filed_under e) d (clear_number e k) m g.0 up) r.0) i

pub arrived_order : (e : Event) (q : List Event) → is_clear e ≡ true → all (is_apart e) q ≡ true → are_clear q ≡ true → in_order q ≡ true → in_order (arrived e q) ≡ true
unfolding arrived
arrived_order e q k f c o = rw (behind_is_first_later (filed_under e) q (clear_number e k) c o) (put_order e q k f c o)

-- an event goes behind all of equal or smaller time; where all are, it is the last

abbrev pub AllUpTo : Float → List Event → Type 0
AllUpTo t [] = Unit {0}
AllUpTo t (e ∷ es) = (Ieee.le (filed_under e) t ≡ true) × AllUpTo t es

behind-all : (t : Float) (q : List Event) → AllUpTo t q → place_behind t q ≡ length q
unfolding place_behind has_not_later
behind-all t [] h = refl
behind-all t (e ∷ q) h = rw (h.0, behind-all t q h.1)

pub arrives_last : (e : Event) (q : List Event) → AllUpTo (filed_under e) q → arrived e q ≡ q ++ (e ∷ [])
unfolding arrived put_at
arrives_last e q h = rw (behind-all (filed_under e) q h, take-length q, drop_of_length-le q {i = length q} (omega arith))

-- ---- the place behind, looked for from the back: the last event decides, or is as if not there

module _ (t : Float) (e : Event) where
  has_last : (q : List Event) → Ieee.le (filed_under e) t ≡ true → has_not_later t (q ++ (e ∷ [])) ≡ true
  unfolding has_not_later
  has_last [] h = rw h
  has_last (d ∷ q) h = rw (has_last q h) (go (Ieee.le (filed_under d) t))
    where
      go : (b : Bool) → (b || true) ≡ true
      go true = refl
      go false = refl

  pub behind_last : (q : List Event) → Ieee.le (filed_under e) t ≡ true → place_behind t (q ++ (e ∷ [])) ≡ suc (length q)
  unfolding place_behind
  behind_last [] h = rw (has_last [] h)
  behind_last (d ∷ q) h = rw (has_last (d ∷ q) h, behind_last q h)

  has_others : (q : List Event) → Ieee.le (filed_under e) t ≡ false → has_not_later t (q ++ (e ∷ [])) ≡ has_not_later t q
  unfolding has_not_later
  has_others [] h = rw h
  has_others (d ∷ q) h = rw (has_others q h)

  pub behind_others : (q : List Event) → Ieee.le (filed_under e) t ≡ false → place_behind t (q ++ (e ∷ [])) ≡ place_behind t q
  unfolding place_behind
  behind_others [] h = unfold has_not_later in rw h
  behind_others (d ∷ q) h = rw (has_others (d ∷ q) h, behind_others q h)

-- ---- what a test cuts in two

abbrev pub AllPass : {A : Type 0} → (A → Bool) → List A → Type 0
AllPass test [] = Unit {0}
AllPass test (x ∷ xs) = (test x ≡ true) × AllPass test xs

-- behind one that passes all pass
abbrev pub Cut : {A : Type 0} → (A → Bool) → List A → Type 0
Cut test [] = Unit {0}
Cut test (x ∷ xs) = (test x ≡ true → AllPass test xs) × Cut test xs

pub those_pass : {A : Type 0} (test : A → Bool) (xs : List A) → AllPass test (those test xs)
unfolding those
those_pass test [] = tt
those_pass test (x ∷ xs) = go (test x) refl (those_pass test xs)
  where
    go : (b : Bool) → test x ≡ b → AllPass test (those test xs) → AllPass test (cond b (x ∷ those test xs) (those test xs))
    go true e h = (e, h)
    go false e h = h

pub those-all : {A : Type 0} (test : A → Bool) (xs : List A) → AllPass test xs → those test xs ≡ xs
unfolding those
those-all test [] h = refl
those-all test (x ∷ xs) h = rw (h.0, those-all test xs h.1)

pub cut_rest : {A : Type 0} (test : A → Bool) (xs : List A) → Cut test xs → those test xs ≡ drop (place_of test xs) xs
unfolding those place_of
cut_rest test [] h = refl
cut_rest test (x ∷ xs) h = go (test x) refl (cut_rest test xs h.1)
  where
    go : (b : Bool) → test x ≡ b → those test xs ≡ drop (place_of test xs) xs → cond b (x ∷ those test xs) (those test xs) ≡ drop (cond b 0 (suc (place_of test xs))) (x ∷ xs)
    go true e k = ap (λ l. x ∷ l) (those-all test xs (h.0 e))
    go false e k = k

module _ {A : Type 0} (keep test : A → Bool) (opposite : (x : A) → keep x ≡ not (test x)) where
  those_none : (xs : List A) → AllPass test xs → those keep xs ≡ []
  unfolding those
  those_none [] h = refl
  those_none (x ∷ xs) h = rw (opposite x, h.0, those_none xs h.1)

  pub cut_prefix : (xs : List A) → Cut test xs → those keep xs ≡ take (place_of test xs) xs
  unfolding those place_of
  cut_prefix [] h = refl
  cut_prefix (x ∷ xs) h = rw (opposite x) (go (test x) refl (cut_prefix xs h.1))
    where
      go : (b : Bool) → test x ≡ b → those keep xs ≡ take (place_of test xs) xs → cond (not b) (x ∷ those keep xs) (those keep xs) ≡ take (cond b 0 (suc (place_of test xs))) (x ∷ xs)
      go true e k = those_none xs (h.0 e)
      go false e k = ap (λ l. x ∷ l) k

-- a test that an event passes where one passes that reaches no further than it
module _ (test : Waiting → Bool)
    (up : (w v : Waiting) → Ieee.le (reach_of w.event) (filed_under v.event) ≡ true → test w ≡ true → test v ≡ true) where
  all_up : (w : Waiting) (ws : List Waiting) → AllFrom (reach_of w.event) (events_of ws) → test w ≡ true → AllPass test ws
  unfolding events_of
  all_up w [] f h = tt
  all_up w (v ∷ ws) f h = (up w v f.0 h, all_up w ws f.1 h)

  order_cut : (ws : List Waiting) → in_order (events_of ws) ≡ true → Cut test ws
  unfolding events_of
  order_cut [] o = tt
  order_cut (w ∷ ws) o = (λ h. all_up w ws (order_reach w.event (events_of ws) o) h, order_cut ws (order_parts w.event (events_of ws) o).1)

-- ---- cancel, and hold

-- where a cancel takes an event, it takes those behind it
goes_on : (c : Float) (e d : Event) → Ieee.le (reach_of e) (filed_under d) ≡ true → goes_at c e ≡ true → goes_at c d ≡ true
unfolding goes_at
goes_on c e d r h = go (Ieee.lt (filed_under d) c) refl
  where
    lasts : Ieee.lt (filed_under e) c ≡ true → lasts_to c e ≡ true
    lasts l = rw l at h

    go : (b : Bool) → Ieee.lt (filed_under d) c ≡ b → (not b || lasts_to c d) ≡ true
    go true k =
        let l : Ieee.lt (filed_under e) c ≡ true = le_lt (filed_under e) (filed_under d) c (filed_before e (filed_under d) r) k in
        clash k (le_not_lt c (filed_under d) (lasts_up_to c e (filed_under d) l (lasts l) r))
    go false k = refl

-- what is not later than c is at or before it
all-up_to : (c : Float) (ws : List Waiting) → is_number c ≡ true → are_clear (events_of ws) ≡ true → AllPass (is_not_later c) ws → AllUpTo c (events_of ws)
unfolding events_of is_not_later is_later
all-up_to c [] n k h = tt
all-up_to c (w ∷ ws) n k h =
    let a = all-parts is_clear w.event (events_of ws) k in
    (not_lt c (filed_under w.event) n (clear_number w.event a.0) (not-true (Ieee.lt c (filed_under w.event)) h.0), all-up_to c ws n a.1 h.1)

module _ (c : Float) (ws : List Waiting) (o : in_order (events_of ws) ≡ true) where
  later_cut : Cut (is_later c) ws
  unfolding is_later
  later_cut = order_cut (is_later c) (λ w v l h. lt_le_lt c (filed_under w.event) (filed_under v.event) h (filed_before w.event (filed_under v.event) l)) ws o

  -- the events later than c are the last ones
  pub late_is : those (is_later c) ws ≡ drop (first_later c (events_of ws)) ws
  unfolding first_later is_later is_later_than
  late_is = cut_rest (is_later c) ws later_cut ∙ ap (λ (k : ℕ). drop k ws) (place_events (is_later_than c) ws)

  pub early_is : those (is_not_later c) ws ≡ take (first_later c (events_of ws)) ws
  unfolding first_later is_later is_later_than is_not_later
  early_is = cut_prefix (is_not_later c) (is_later c) (λ w. refl) ws later_cut ∙ ap (λ (k : ℕ). take k ws) (place_events (is_later_than c) ws)

  -- and together they are the queue
  pub early_late : those (is_not_later c) ws ++ those (is_later c) ws ≡ ws
  early_late = rw (early_is, late_is) (take-append-drop (first_later c (events_of ws)) ws)

  pub early_up_to : is_number c ≡ true → are_clear (events_of ws) ≡ true → AllUpTo c (events_of (those (is_not_later c) ws))
  early_up_to n k = all-up_to c (those (is_not_later c) ws) n clear (those_pass (is_not_later c) ws)
    where
      clear : are_clear (events_of (those (is_not_later c) ws)) ≡ true
      clear = rw (early_is, events_take) (all_take is_clear (first_later c (events_of ws)) (events_of ws) k)

  -- a cancel leaves the first ones
  pub cancelled_is : cancelled c ws ≡ take (first_going c (events_of ws)) ws
  unfolding cancelled is_before first_going
  cancelled_is =
      cut_prefix (is_before c) (λ w. goes_at c w.event) (λ w. refl) ws (order_cut (λ w. goes_at c w.event) (λ w v. goes_on c w.event v.event) ws o)
      ∙ ap (λ (k : ℕ). take k ws) (place_events (goes_at c) ws)

  pub held_is : held c ws ≡ held_by c (take (first_later c (events_of ws)) ws) (drop (first_later c (events_of ws)) ws)
  unfolding held
  held_is = rw (early_is, late_is)

-- the same cut of events
pub events_cut : (t : Float) (q : List Event) → in_order q ≡ true
    → (take (first_later t q) q ≡ those (λ e. not (is_later_than t e)) q) × (drop (first_later t q) q ≡ those (is_later_than t) q)
unfolding is_later is_not_later is_later_than
events_cut t q o =
    let ws : List Waiting = alones q in
    let is : events_of ws ≡ q = events_alones q in
    let k : ℕ = first_later t (events_of ws) in
    let u : in_order (events_of ws) ≡ true = rw is o in
    let early : take k (events_of ws) ≡ those (λ e. not (Ieee.lt t (filed_under e))) (events_of ws) =
    sym (events_take k ws) ∙ ap events_of (sym (early_is t ws u)) ∙ events_those (λ e. not (Ieee.lt t (filed_under e))) ws in
    let late : drop k (events_of ws) ≡ those (λ e. Ieee.lt t (filed_under e)) (events_of ws) =
    sym (events_drop k ws) ∙ ap events_of (sym (late_is t ws u)) ∙ events_those (λ e. Ieee.lt t (filed_under e)) ws in
    (rw is at early, rw is at late)

-- only the last one of these can be held
pub last_held_is : (c : Float) (xs : List Waiting) (x : Waiting) → last_held c (xs ++ (x ∷ [])) ≡ xs ++ (held_if_running c x ∷ [])
unfolding last_held
last_held_is c [] x = refl
last_held_is c (y ∷ []) x = refl
last_held_is c (y ∷ z ∷ xs) x = ap (λ (l : List Waiting). y ∷ l) (last_held_is c (z ∷ xs) x)

pub events_last_held : (c : Float) (ws : List Waiting) (n : ℕ) (d : Event) → n < length ws
    → events_of (last_held c (take (suc n) ws))
    ≡ take n (events_of ws) ++ (cond (runs_at c (get_or (events_of ws) n d)) (held_event c (get_or (events_of ws) n d)) (get_or (events_of ws) n d) ∷ [])
unfolding held_if_running
events_last_held c ws n d l =
    let x : Waiting = get_or ws n (alone d) in
    rw (take-suc ws n (alone d) l, last_held_is c (take n ws) x, events_append (take n ws) (held_if_running c x ∷ []), events_one, events_take, events_get ws n (alone d))
    (ap (λ (e : Event). take n (events_of ws) ++ (e ∷ [])) (go (runs_at c x.event) x))
  where
    go : (b : Bool) (x : Waiting) → (cond b (held_at c x) x).event ≡ cond b (held_event c x.event) x.event
    go true x = unfold held_at in refl
    go false x = refl
