-- What each call leaves of the queue and of the part, from what its steps do. Assumes nothing.
use mathlib.Core.Path.{◌≡◌, refl, sym, ap, ap₂, ◌∙◌}
use mathlib.Core.Bool.{Bool, true, false, cond}
use mathlib.Core.List.{List, [], ◌∷◌, ◌++◌, append_assoc, append-nil}
use Prim.Native.Nat.{ℕ, ◌+◌, ◌-◌, ◌≤◌}
use native.Mathlib.Nat.{zero-add}
use native.Mathlib.Omega.{arith}
use lib.ListN.{set, length, take, drop, replicate, length-drop, drop_of_length-le}
use lib.Seq.{paste, take-add, take_at, take-paste, drop_at, drop-paste, length-paste, length-take-le, take-length, take-append-le, take-take}
use lib.Ieee.{Float}
use Rattle.rules.specs.declared.Event.{Event}
use Rattle.rules.specs.Numbers.{plus_zero, store_length}
use Rattle.rules.specs.Queue.{Waiting, filed_under, is_ramp, length_of, lengths_of, events_of, numbers_of, packed, attached, place_behind, put_at, arrived, inserted, those, is_before, cancelled, is_later, is_not_later, held_at, last_held, holds_ramp, held_by, held}
use Rattle.laws.proofs.Events.{events_attached, events_drop, events_inserted, events_cancelled, held_by_ramp, events_held, alones, lengths_split}
use Rattle.laws.proofs.Store.{numbers-append, numbers-attached, numbers-put, numbers-last_held, attached-length, attached-take, attached-drop}
use Rattle.timeline.specs.declared.AudioParamEventTimeline.{AudioParamEventTimeline}
use Rattle.timeline.specs.Timeline.{made, waiting, is_kept, stays}
use Rattle.timeline.proofs.Laws.{waits_of}
use Rattle.curves.specs.Curves.{moved, packed_in, Leaves, curve_of}

-- ---- what is packed

-- the whole store is the part of a parameter that has it alone
pub packed-whole : (store : List Float) (ws : List Waiting) → length store ≡ store_length → packed_in (length store) ws ≡ packed ws
unfolding packed_in packed
packed-whole store ws e = rw e

-- only the numbers matter
pub packed-same : (n : ℕ) (ws vs : List Waiting) → numbers_of ws ≡ numbers_of vs → packed_in n ws ≡ packed_in n vs
unfolding packed_in
packed-same n ws vs e = rw e

-- numbers at the front of a part, then zeros
packs : (n : ℕ) (ws : List Waiting) (s : List Float) (used : ℕ) → take used s ≡ numbers_of ws → used ≤ length s → length s ≡ n
    → take used s ++ replicate (length s - used) plus_zero ≡ packed_in n ws
unfolding packed_in
packs n ws s used e h l =
    let m : used ≡ length (numbers_of ws) = sym (length-take-le used s h) ∙ ap length e in
    rw (e, l) (ap (λ (k : ℕ). numbers_of ws ++ replicate (n - k) plus_zero) m)

-- ---- cancel

pub cancelled_events : (c : Float) (q : List Event) (o : List Float) → those (stays false c) q ≡ events_of (cancelled c (attached q o))
unfolding is_kept is_before cancelled
cancelled_events c q o = sym (events_cancelled c (attached q o) ∙ ap (those (stays false c)) (events_attached q o))

-- ---- hold: a ramp has no numbers, so those of the events that are not later are all

abbrev Fair : List Waiting → Type 0
Fair [] = Unit
Fair (w ∷ ws) = (is_ramp w.event ≡ true → w.numbers ≡ []) × Fair ws

ramp_bare : (e : Event) (o : List Float) → is_ramp e ≡ true → take (length_of e) o ≡ []
unfolding is_ramp length_of
ramp_bare (Event.Step v t) o r = refl
ramp_bare (Event.Linear v t h) o r = refl
ramp_bare (Event.Exponential v t h) o r = refl
ramp_bare (Event.Target v t c h) o r = refl
ramp_bare (Event.Curve s d n h) o r = let z : ◌≡◌ {A = ℕ} 0 1 = cc in absurd (omega arith)

attached_fair : (q : List Event) (o : List Float) → Fair (attached q o)
unfolding attached
attached_fair [] o = tt
attached_fair (e ∷ q) o = (ramp_bare e o, attached_fair q (drop (length_of e) o))

those_fair : (test : Waiting → Bool) (ws : List Waiting) → Fair ws → Fair (those test ws)
unfolding those
those_fair test [] f = tt
those_fair test (w ∷ ws) f = go (test w) (those_fair test ws f.1)
  where
    go : (b : Bool) → Fair (those test ws) → Fair (cond b (w ∷ those test ws) (those test ws))
    go true g = (f.0, g)
    go false g = g

by_numbers : (c : Float) (ws xs : List Waiting) → Fair xs → numbers_of (held_by c ws xs) ≡ numbers_of ws
unfolding held_by numbers_of held_at
by_numbers c ws [] f = numbers-last_held c ws
by_numbers c ws (x ∷ xs) f = go (holds_ramp c ws x) (λ h. f.0 (held_by_ramp c ws x h))
  where
    go : (b : Bool) → (b ≡ true → x.numbers ≡ []) → numbers_of (cond b (ws ++ (held_at c x ∷ [])) (last_held c ws)) ≡ numbers_of ws
    go true g = numbers-append ws (held_at c x ∷ []) ∙ ap (λ (l : List Float). numbers_of ws ++ (l ++ [])) (g refl) ∙ append-nil (numbers_of ws)
    go false g = numbers-last_held c ws

pub held-numbers : (c : Float) (q : List Event) (o : List Float) → numbers_of (those (is_kept true c) (attached q o)) ≡ numbers_of (held c (attached q o))
unfolding held is_kept
held-numbers c q o =
    sym
    (by_numbers c (those (is_not_later c) (attached q o)) (those (is_later c) (attached q o)) (those_fair (is_later c) (attached q o) (attached_fair q o)))

pub held_queue : (c : Float) (q : List Event) (o : List Float) → events_of (held c (attached q [])) ≡ events_of (held c (attached q o))
held_queue c q o =
    let e : events_of (attached q []) ≡ events_of (attached q o) = events_attached q [] ∙ sym (events_attached q o) in
    events_held c (attached q []) ∙ ap (λ (es : List Event). events_of (held c (alones es))) e ∙ sym (events_held c (attached q o))

-- ---- consume

module _ (q : List Event) (o : List Float) (fits : lengths_of q ≤ length o) (n : ℕ) where
  abbrev gone : ℕ
  gone = lengths_of (take n q)

  left_is : lengths_of q - gone ≡ lengths_of (drop n q)
  left_is = omega (arith, lengths_split n q)

  pub consumed_room : gone + (lengths_of q - gone) ≤ length o
  consumed_room = omega (arith, lengths_split n q)

  pub consumed-part : (s : List Float) (used : ℕ) → used ≡ lengths_of q - gone → s ≡ moved o gone 0 used
      → take used s ++ replicate (length s - used) plus_zero ≡ packed_in (length o) (drop n (attached q o))
  consumed-part s used u e =
      let r : gone + (lengths_of q - gone) ≤ length o = consumed_room in
      let d : length (drop gone o) ≡ length o - gone = length-drop gone o in
      let h : used ≤ length (drop gone o) = omega arith in
      let l : length s ≡ length o = ap length e ∙ length-paste o 0 (drop gone o) used (omega arith) h in
      let f : take used s ≡ take used (drop gone o) =
      ap (take used) e ∙ ap (λ (k : ℕ). take k (moved o gone 0 used)) (sym (zero-add used)) ∙ take-paste o 0 (drop gone o) used (omega arith) h in
      let m : numbers_of (drop n (attached q o)) ≡ take used (drop gone o) =
      sym (ap numbers_of (attached-drop n q o)) ∙ numbers-attached (drop n q) (drop gone o) ∙ ap (λ (k : ℕ). take k (drop gone o)) (sym (u ∙ left_is)) in
      packs (length o) (drop n (attached q o)) s used (f ∙ sym m) (omega arith) l

  pub untouched_part : (used : ℕ) → used ≡ lengths_of q → n ≡ 0
      → take used o ++ replicate (length o - used) plus_zero ≡ packed_in (length o) (drop n (attached q o))
  untouched_part used u z =
      packs (length o) (drop n (attached q o)) o used
      (ap (λ (k : ℕ). take k o) u ∙ sym (ap (λ (k : ℕ). numbers_of (drop k (attached q o))) z ∙ numbers-attached q o))
      (omega arith) refl

  pub consumed_events : drop n q ≡ events_of (drop n (attached q o))
  consumed_events = sym (events_drop n (attached q o) ∙ ap (drop n) (events_attached q o))

  -- all of them are finished
  none_left : length q ≤ n → drop n (attached q o) ≡ []
  none_left h = drop_of_length-le (attached q o) {i = n} (omega (arith, attached-length q o))

  pub emptied_events : length q ≤ n → [] ≡ events_of (drop n (attached q o))
  unfolding events_of
  emptied_events h = sym (ap events_of (none_left h))

  pub emptied_part : length q ≤ n → take 0 o ++ replicate (length o - 0) plus_zero ≡ packed_in (length o) (drop n (attached q o))
  unfolding numbers_of
  emptied_part h = packs (length o) (drop n (attached q o)) o 0 (sym (ap numbers_of (none_left h))) (omega arith) refl

-- ---- insert

-- a gap opened at `at`, and filled
module _ {A : Type 0} (o xs : List A) (at used : ℕ) (h : at ≤ used) (fits : used + length xs ≤ length o) where
  abbrev opened : List A
  opened = paste o (at + length xs) (drop at o) (used - at)

  abbrev filled : List A
  filled = paste opened at xs (length xs)

  enough : used - at ≤ length (drop at o)
  enough = simp length-drop (omega arith)

  opened-length : length opened ≡ length o
  opened-length = length-paste o (at + length xs) (drop at o) (used - at) (omega arith) enough

  pub filled-length : length filled ≡ length o
  filled-length = let l : length opened ≡ length o = opened-length in length-paste opened at xs (length xs) (omega arith) (omega arith) ∙ l

  opened_front : take at opened ≡ take at o
  opened_front =
      let l : length (take (at + length xs) o) ≡ at + length xs = length-take-le (at + length xs) o (omega arith) in
      let m : at ≤ length (take (at + length xs) o) = omega arith in
      ap (take at) (append_assoc (take (at + length xs) o) (take (used - at) (drop at o)) (drop (at + length xs + (used - at)) o))
      ∙ take-append-le at (take (at + length xs) o) (take (used - at) (drop at o) ++ drop (at + length xs + (used - at)) o) m
      ∙ take-take at (at + length xs) o (omega arith)

  opened_back : take (used - at) (drop (at + length xs) opened) ≡ take (used - at) (drop at o)
  opened_back =
      let l : length (take (at + length xs) o) ≡ at + length xs = length-take-le (at + length xs) o (omega arith) in
      let n : length (take (used - at) (drop at o)) ≡ used - at = length-take-le (used - at) (drop at o) enough in
      ap (λ (s : List A). take (used - at) (drop (at + length xs) s))
      (append_assoc (take (at + length xs) o) (take (used - at) (drop at o)) (drop (at + length xs + (used - at)) o))
      ∙ ap (take (used - at)) (drop_at (take (at + length xs) o) _ (at + length xs) l)
      ∙ take_at (take (used - at) (drop at o)) _ (used - at) n

  pub filled_front : take (used + length xs) filled ≡ take at o ++ (xs ++ take (used - at) (drop at o))
  filled_front =
      let l : length opened ≡ length o = opened-length in
      let s : used + length xs ≡ at + length xs + (used - at) = omega arith in
      ap (λ (k : ℕ). take k filled) s
      ∙ take-add (at + length xs) (used - at) filled
      ∙ ap₂ ◌++◌
      (take-paste opened at xs (length xs) (omega arith) (omega arith) ∙ ap₂ ◌++◌ opened_front (take-length xs))
      (ap (take (used - at)) (drop-paste opened at xs (length xs) (omega arith) (omega arith)) ∙ opened_back)
      ∙ append_assoc (take at o) xs (take (used - at) (drop at o))

module _ (start duration : Float) (xs : List Float) (q : List Event) (o : List Float) where
  abbrev place : ℕ
  place = place_behind start q

  abbrev new : Waiting
  new = curve_of start duration xs

  inserted_is : inserted new (attached q o) ≡ put_at place new (attached q o)
  unfolding inserted filed_under
  inserted_is = ap (λ (es : List Event). put_at (place_behind start es) new (attached q o)) (events_attached q o)

  pub inserted_events : put_at place new.event q ≡ events_of (inserted new (attached q o))
  unfolding arrived filed_under
  inserted_events = sym (events_inserted new (attached q o) ∙ ap (arrived new.event) (events_attached q o))

  inserted-numbers : (used at : ℕ) → used ≡ lengths_of q → at ≡ lengths_of (take place q)
      → numbers_of (inserted new (attached q o)) ≡ take at o ++ (xs ++ take (used - at) (drop at o))
  inserted-numbers used at u a =
      let d : lengths_of (drop place q) ≡ used - at = omega (arith, lengths_split place q) in
      ap numbers_of inserted_is
      ∙ numbers-put place new (attached q o)
      ∙ ap₂ (λ (l r : List Float). l ++ (xs ++ r))
      (sym (ap numbers_of (attached-take place q o)) ∙ numbers-attached (take place q) o ∙ ap (λ (k : ℕ). take k o) (sym a))
      (sym (ap numbers_of (attached-drop place q o)) ∙ numbers-attached (drop place q) (drop (lengths_of (take place q)) o) ∙ ap₂ (λ (k j : ℕ). take k (drop j o)) d (sym a))

  pub inserted-part : lengths_of q + length xs ≤ length o → (used at : ℕ) → used ≡ lengths_of q → at ≡ lengths_of (take place q)
      → (s : List Float) → s ≡ paste (moved o at (at + length xs) (used - at)) at xs (length xs)
      → take (used + length xs) s ++ replicate (length s - (used + length xs)) plus_zero ≡ packed_in (length o) (inserted new (attached q o))
  inserted-part fits used at u a s e =
      let h : at ≤ used = omega (arith, lengths_split place q) in
      let f : used + length xs ≤ length o = omega arith in
      let l : length s ≡ length o = ap length e ∙ filled-length o xs at used h f in
      packs (length o) (inserted new (attached q o)) s (used + length xs)
      (ap (take (used + length xs)) e ∙ filled_front o xs at used h f ∙ sym (inserted-numbers used at u a))
      (omega arith) l

-- ---- a head that has become another event, with the numbers that it had

pub leaves_replaced : (q r : AudioParamEventTimeline) (before after : List Float) (w x : Waiting) (ws : List Waiting)
    → Leaves q before after (w ∷ ws) → x.numbers ≡ w.numbers → r ≡ made (set (waiting q) 0 x.event) → Leaves r before after (x ∷ ws)
unfolding events_of numbers_of
leaves_replaced q r before after w x ws h e f =
    record {
      queue = f ∙ ap (λ (es : List Event). made (set es 0 x.event)) (waits_of q (events_of (w ∷ ws)) h.queue);
      part = h.part ∙ packed-same (length before) (w ∷ ws) (x ∷ ws) (sym (ap (λ (xs : List Float). xs ++ numbers_of ws) e));
    }
