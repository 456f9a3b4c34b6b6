-- The loops over the slots, turn by turn: the search for a place, the insertion at it, and what a cut keeps. Assumes nothing.
use Rattle.std.proofs.Common.{Some, None}
use mathlib.Core.Path.{◌≡◌, refl, sym, ap, ap₂, ◌∙◌}
use mathlib.Core.Bool.{Bool, true, false, cond, ◌||◌}
use mathlib.Core.List.{List, [], ◌∷◌, ◌++◌, map, map-append, map-map, map-id, append-nil}
use Prim.Native.Nat.{ℕ, suc, ◌+◌, ◌-◌, ◌≤◌, ◌<◌}
use native.Mathlib.Nat.{le_of_lt}
use native.Mathlib.Numerals.{add-one}
use native.Mathlib.Omega.{arith}
use lib.ListN.{length, take, drop, get_or, set, replicate, length-take, length-map, drop_of_length-le}
use lib.Seq.{paste, take_all, drop-cons, drop-append-add, length-take-le}
use lib.Ieee as Ieee
use lib.Ieee.{Float}
use Rattle.std.specs.List.{find}
use Rattle.std.specs.Option.{is_some}
use Rattle.std.proofs.lemmas.List.{take-map, drop-map, drop-replicate}
use Rattle.rules.specs.declared.Event.{Event}
use Rattle.rules.specs.Numbers.{most_events}
use Rattle.rules.specs.Queue.{filed_under, any, has_not_later, place_behind, put_at, those}
use Rattle.laws.proofs.Events.{put-length}
use Rattle.laws.proofs.Ordered.{behind_last, behind_others}
use Rattle.timeline.specs.declared.AudioParamEvent.{AudioParamEvent}
use Rattle.timeline.specs.declared.AudioParamEventTimeline.{AudioParamEventTimeline}
use Rattle.timeline.specs.Timeline.{slot_of, blank_event, padded, waiting, Neat, first_of, stays}
use Rattle.timeline.proofs.Lists.{those_snoc, those-length, shifted}
use Rattle.timeline.proofs.Laws.{nothing, count, full, slots_split, slot_holds, one_more, Filled}

-- ---- the event at a place

pub none_there : (es : List Event) (i : ℕ) → length es ≤ i → None ≡ first_of (drop i es)
unfolding first_of
none_there es i h = rw (drop_of_length-le es h)

pub one_there : (es : List Event) (i : ℕ) → i < length es → Some (get_or es i nothing) ≡ first_of (drop i es)
unfolding first_of
one_there es i h = rw (drop-cons es i nothing h)

-- as code reads it from the slots
pub slot_there : (q : AudioParamEventTimeline) → Neat q → (i : ℕ) → i < q.len → Some (get_or q.slots i (slot_of nothing)).event ≡ first_of (drop i (waiting q))
slot_there q h i l =
    let n : length (waiting q) ≡ q.len = count q h in
    ap (λ (s : AudioParamEvent). Some s.event) (slot_holds q h i l) ∙ one_there (waiting q) i (omega arith)

-- ---- the place behind all of equal or smaller time, searched from the end

-- all behind the one at i are later than t
module _ (t : Float) (es : List Event) (i : ℕ) (l : i < length es) (p : place_behind t es ≡ place_behind t (take (i + 1) es)) where
  split : place_behind t es ≡ place_behind t (take i es ++ (get_or es i nothing ∷ []))
  split = p ∙ ap (place_behind t) (one_more es i l)

  pub place_here : Ieee.le (filed_under (get_or es i nothing)) t ≡ true → i + 1 ≡ place_behind t es
  place_here f =
      let n : length (take i es) ≡ i = length-take-le i es (le_of_lt l) in
      rw (split, behind_last t (get_or es i nothing) (take i es) f, n, add-one)

  pub place_before : Ieee.le (filed_under (get_or es i nothing)) t ≡ false → place_behind t es ≡ place_behind t (take i es)
  place_before f = split ∙ behind_others t (get_or es i nothing) (take i es) f

pub place_within : (t : Float) (es : List Event) → place_behind t es ≤ length es
unfolding place_behind
place_within t [] = omega arith
place_within t (x ∷ es) = go (place_within t es) (has_not_later t (x ∷ es))
  where
    go : place_behind t es ≤ length es → (b : Bool) → cond b (suc (place_behind t es)) 0 ≤ suc (length es)
    go h true = omega arith
    go h false = omega arith

-- ---- one more event at a place, the others moved up

-- the slot behind those in use is free
one_less : (es : List Event) (n : ℕ) → length es ≡ n
    → drop (n + 1) (map slot_of es ++ map slot_of (replicate (most_events - length es) blank_event)) ≡ map slot_of (replicate (most_events - (n + 1)) blank_event)
one_less es n c =
    let l : length (map slot_of es) ≡ n = length-map es slot_of ∙ c in
    let m : most_events - n - 1 ≡ most_events - (n + 1) = omega arith in
    rw (c, ← l) (drop-append-add (map slot_of es) (map slot_of (replicate (most_events - length (map slot_of es)) blank_event)) 1 ∙ rw (l, drop-map slot_of 1 (replicate (most_events - n) blank_event), drop-replicate 1 (most_events - n) blank_event, m))

put_in : (es : List Event) (p n : ℕ) (x : Event) → length es ≡ n → put_at p (slot_of x) (map slot_of es) ++ map slot_of (replicate (most_events - (n + 1)) blank_event) ≡ map slot_of (padded (put_at p x es))
unfolding padded put_at
put_in es p n x c =
    let l : length (take p es ++ (x ∷ drop p es)) ≡ n + 1 = unfold put_at in put-length p x es ∙ sym (add-one (length es)) ∙ ap (λ (k : ℕ). k + 1) c in
    rw (take-map slot_of p es, drop-map slot_of p es, l, map-append slot_of (take p es ++ (x ∷ drop p es)) (replicate (most_events - (n + 1)) blank_event), map-append slot_of (take p es) (x ∷ drop p es))

put_slots : (es : List Event) (p n : ℕ) (x : Event) (s : List AudioParamEvent) → length es ≡ n → p ≤ n → n < length s
    → s ≡ map slot_of es ++ map slot_of (replicate (most_events - length es) blank_event) → take n s ≡ map slot_of es
    → set (paste s (p + 1) (drop p s) (n - p)) p (slot_of x) ≡ map slot_of (padded (put_at p x es))
put_slots es p n x s c g l e f =
    shifted s p n (slot_of x) g l ∙ ap₂ (λ (a b : List AudioParamEvent). put_at p (slot_of x) a ++ b) f (ap (drop (n + 1)) e ∙ one_less es n c) ∙ put_in es p n x c

pub put_end : (q : AudioParamEventTimeline) → Neat q → (p : ℕ) (x : Event) → p ≤ q.len → q.len < most_events → (s : List AudioParamEvent)
    → s ≡ paste q.slots (p + 1) (drop p q.slots) (q.len - p) → Filled (set s p (slot_of x)) (q.len + 1) (put_at p x (waiting q))
put_end q h p x g l s e =
    let f : length q.slots ≡ 64 = full q h in
    let c : length (waiting q) ≡ q.len = count q h in
    let k : take q.len q.slots ≡ map slot_of (waiting q) = sym (map-map slot_of (λ (s : AudioParamEvent). s.event) (take q.len q.slots) ∙ map-id (take q.len q.slots)) in
    record {
      many = sym (put-length p x (waiting q) ∙ sym (add-one (length (waiting q))) ∙ ap (λ (k : ℕ). k + 1) c);
      held = ap (λ (t : List AudioParamEvent). set t p (slot_of x)) e ∙ put_slots (waiting q) p q.len x q.slots c g (omega arith) (slots_split q h) k;
    }

-- ---- what a cut keeps

module _ (equal : Bool) (c : Float) (es : List Event) where
  abbrev pub Kept : ℕ → List Event
  Kept i = those (stays equal c) (take i es)

  module _ (i : ℕ) (l : i < length es) where
    kept_more : Kept (i + 1) ≡ Kept i ++ cond (stays equal c (get_or es i nothing)) (get_or es i nothing ∷ []) []
    kept_more = rw (one_more es i l, those_snoc (stays equal c) (take i es) (get_or es i nothing))

    pub kept_one : stays equal c (get_or es i nothing) ≡ true → Kept (i + 1) ≡ Kept i ++ (get_or es i nothing ∷ [])
    kept_one f = rw (kept_more, f)

    pub kept_none : stays equal c (get_or es i nothing) ≡ false → Kept (i + 1) ≡ Kept i
    kept_none f = rw (kept_more, f, append-nil)

  pub kept-all : (i : ℕ) → length es ≤ i → Kept i ≡ those (stays equal c) es
  kept-all i l = ap (those (stays equal c)) (take_all i es l)

  pub kept-few : (i : ℕ) → length (Kept i) ≤ i
  kept-few i = omega (arith, those-length (stays equal c) (take i es), length-take i es)

-- ---- the first event that passes a test

pub first_is : (test : Event → Bool) (es : List Event) → find test es ≡ first_of (those test es)
unfolding first_of those
first_is test [] = refl
first_is test (e ∷ es) = go (test e) (first_is test es)
  where
    go : (b : Bool) → find test es ≡ first_of (those test es) → cond b (Some e) (find test es) ≡ first_of (cond b (e ∷ those test es) (those test es))
    go true k = unfold first_of in refl
    go false k = k

-- whether there is one
pub any_find : (test : Event → Bool) (es : List Event) → is_some (find test es) ≡ any test es
unfolding any
any_find test [] = refl
any_find test (e ∷ es) = go (test e) (any_find test es)
  where
    go : (b : Bool) → is_some (find test es) ≡ any test es → is_some (cond b (Some e) (find test es)) ≡ (b || any test es)
    go true k = refl
    go false k = k
