-- Laws of the queue that is made of a list of events, for this crate and those above it. Assumes nothing.
use mathlib.Core.Path.{◌≡◌, refl, sym, ap, ◌∙◌}
use mathlib.Core.List.{List, [], ◌∷◌, ◌++◌, map, map-map, map-id, map-append}
use Prim.Native.Nat.{ℕ, suc, min, ◌+◌, ◌-◌, ◌≤◌, ◌<◌}
use native.Mathlib.Nat.{add-zero}
use native.Mathlib.Numerals.{add-one}
use native.Mathlib.Omega.{arith}
use lib.ListN.{length, take, drop, get_or, set, replicate, length-append, length-drop, length-set, length-replicate, length-map, get_or-map, get_or-append}
use lib.Seq.{take_at, take-suc, take-take, set_at, append_snoc, set-append_left, drop-append-le}
use lib.Ieee.{nan}
use Rattle.rules.specs.declared.Event.{Event}
use Rattle.rules.specs.Numbers.{most_events}
use Rattle.rules.specs.Queue.{length_of, lengths_of}
use Rattle.laws.proofs.Events.{lengths_append, lengths_split}
use Rattle.timeline.specs.declared.AudioParamEvent.{AudioParamEvent}
use Rattle.timeline.specs.declared.AudioParamEventTimeline.{AudioParamEventTimeline}
use Rattle.timeline.specs.Timeline.{slot_of, blank_event, padded, made, waiting, Neat}
use Rattle.std.proofs.lemmas.List.{take-map, drop-map, map-set, drop-replicate, drop_min}
use Rattle.timeline.proofs.Lists.{map-replicate}

abbrev event_in : AudioParamEvent → Event
event_in s = s.event

-- what a read past an array's end is taken for
abbrev pub nothing : Event
nothing = Event.Step nan nan

-- ---- the queue of a list

pub waits : (es : List Event) → waiting (made es) ≡ es
unfolding made padded
waits es =
    ap (map event_in) (take-map slot_of (length es) (padded es) ∙ ap (map slot_of) (take_at es _ (length es) refl))
    ∙ map-map event_in slot_of es ∙ map-id es

pub made_neat : (es : List Event) → length es ≤ most_events → Neat (made es)
unfolding made
made_neat es h = record { few = h; clean = ap made (sym (waits es)) }

pub neat_of : (q : AudioParamEventTimeline) (es : List Event) → q ≡ made es → length es ≤ most_events → Neat q
neat_of q es e h = rw e (made_neat es h)

pub waits_of : (q : AudioParamEventTimeline) (es : List Event) → q ≡ made es → waiting q ≡ es
waits_of q es e = rw e (waits es)

padded-length : (es : List Event) → length es ≤ most_events → length (padded es) ≡ most_events
unfolding padded
padded-length es h = simp (length-append, length-replicate) (omega arith)

-- ---- the slots in use, as a loop goes over them

module _ (q : AudioParamEventTimeline) where
  -- the event in one of them
  pub in_slot : (i : ℕ) → (get_or (take q.len q.slots) i (slot_of nothing)).event ≡ get_or (waiting q) i nothing
  in_slot i = sym (get_or-map event_in (take q.len q.slots) i (slot_of nothing))

  pub in_use : length (take q.len q.slots) ≡ length (waiting q)
  in_use = sym (length-map (take q.len q.slots) event_in)

  -- the events in the first k of them
  pub in_first : (k : ℕ) → k ≤ q.len → map event_in (take k q.slots) ≡ take k (waiting q)
  in_first k h = sym (take-map event_in k (take q.len q.slots) ∙ ap (map event_in) (take-take k q.len q.slots h))

-- ---- a sound queue

module _ (q : AudioParamEventTimeline) (h : Neat q) where
  pub slots_are : q.slots ≡ map slot_of (padded (waiting q))
  unfolding made
  slots_are = ap (λ (u : AudioParamEventTimeline). u.slots) h.clean

  pub count : length (waiting q) ≡ q.len
  unfolding made
  count = sym (ap (λ (u : AudioParamEventTimeline). u.len) h.clean)

  pub full : length q.slots ≡ 64
  full =
      let s : q.len ≤ most_events = h.few in
      let c : length (waiting q) ≡ q.len = count in
      let p : length (waiting q) ≤ most_events = omega arith in
      ap length slots_are ∙ length-map (padded (waiting q)) slot_of ∙ padded-length (waiting q) p

  -- what a slot in use holds
  pub slot_holds : (i : ℕ) → i < q.len → get_or q.slots i (slot_of nothing) ≡ slot_of (get_or (waiting q) i nothing)
  unfolding padded
  slot_holds i l =
      let c : length (waiting q) ≡ q.len = count in
      let m : i < length (waiting q) = omega arith in
      ap (λ (s : List AudioParamEvent). get_or s i (slot_of nothing)) slots_are
      ∙ get_or-map slot_of (padded (waiting q)) i nothing
      ∙ ap slot_of (get_or-append (waiting q) _ nothing i m)

  -- the slots in use, and the blank ones behind them
  pub slots_split : q.slots ≡ map slot_of (waiting q) ++ map slot_of (replicate (most_events - length (waiting q)) blank_event)
  unfolding padded
  slots_split = slots_are ∙ map-append slot_of (waiting q) (replicate (most_events - length (waiting q)) blank_event)

-- one event more
pub one_more : (es : List Event) (i : ℕ) → i < length es → take (i + 1) es ≡ take i es ++ (get_or es i nothing ∷ [])
one_more es i h = rw add-one (take-suc es i nothing h)

-- ---- stores

-- one blank the fewer
padded_push : (es : List Event) (e : Event) → length es < most_events → set (padded es) (length es) e ≡ padded (es ++ (e ∷ []))
unfolding padded
padded_push es e h =
    let m : most_events - length es ≡ suc (most_events - suc (length es)) = omega arith in
    let n : length (es ++ (e ∷ [])) ≡ suc (length es) = simp length-append (omega arith) in
    rw (m, n, set_at es blank_event (replicate (most_events - suc (length es)) blank_event) e (length es) refl, append_snoc)

pub padded-set : (es : List Event) (i : ℕ) (e : Event) → i < length es → set (padded es) i e ≡ padded (set es i e)
unfolding padded
padded-set es i e h = rw (set-append_left es (replicate (most_events - length es) blank_event) i e h, length-set es i e)

-- the first k slots hold these events, and the others are blank
pub record Filled (s : List AudioParamEvent) (k : ℕ) (es : List Event) : Type 0 where
  pub many : k ≡ length es
  pub held : s ≡ map slot_of (padded es)

pub filled_of : (q : AudioParamEventTimeline) (es : List Event) → q ≡ made es → Filled q.slots q.len es
unfolding made
filled_of q es e = rw e (record { many = refl; held = refl })

pub filled_none : (b : AudioParamEvent) → b ≡ slot_of blank_event → Filled (replicate 64 b) 0 []
unfolding padded
filled_none b e = record { many = refl; held = rw (e, map-replicate slot_of 64 blank_event) }

module _ {s : List AudioParamEvent} {k : ℕ} {es : List Event} (f : Filled s k es) where
  pub filled_more : {x : AudioParamEvent} {e : Event} {more : List Event}
      → k < most_events → x ≡ slot_of e → more ≡ es ++ (e ∷ []) → Filled (set s k x) (k + 1) more
  filled_more {x} {e} {more} h g m =
      let l : length es < most_events = omega arith in
      let n : length (es ++ (e ∷ [])) ≡ length es + 1 = simp length-append in
      record {
        many = rw (m, n, f.many);
        held = rw (m, f.held, g, f.many) (sym (map-set slot_of (padded es) (length es) e) ∙ ap (map slot_of) (padded_push es e l));
      }

  pub filled-same : {same : List Event} → same ≡ es → Filled s k same
  filled-same e = rw e f

  pub filled-made : ◌≡◌ {A = AudioParamEventTimeline} (record { slots = s; len = k }) (made es)
  unfolding made
  filled-made = rw (f.many, f.held)

-- the slots of these events, and blank ones behind them
pub filled_front : (es : List Event) → length es ≤ most_events → Filled (map slot_of es ++ drop (length es) (made []).slots) (length es) es
unfolding made padded
filled_front es h =
    record {
      many = refl;
      held = rw (map-append slot_of es (replicate (most_events - length es) blank_event), drop-map slot_of (length es) (replicate most_events blank_event), drop-replicate (length es) most_events blank_event);
    }

-- ---- a copy of some of the slots

behind_front : (es : List Event) (b : List AudioParamEvent) (n m : ℕ) → length es ≡ n → m ≤ n → take (n - m) (drop m (map slot_of es ++ b)) ≡ map slot_of (drop m es)
behind_front es b n m c g =
    let k : m ≤ length (map slot_of es) = rw length-map (omega arith) in
    let l : length (map slot_of (drop m es)) ≡ n - m = rw length-map (simp length-drop (omega arith)) in
    rw (drop-append-le m (map slot_of es) b k, drop-map slot_of m es, take_at (map slot_of (drop m es)) b (n - m) l)

behind_most : (es : List Event) (n k : ℕ) → length es ≡ k → drop (min n k) es ≡ drop n es
behind_most es n k c = rw (← c) (drop_min n es)

-- those of the events behind the first n, which may be more than wait
pub behind_first : (q : AudioParamEventTimeline) → Neat q → (n m : ℕ) → m ≡ min n q.len → take (q.len - m) (drop m q.slots) ≡ map slot_of (drop n (waiting q))
behind_first q h n m e =
    let g : m ≤ q.len = omega (arith, e) in
    ap (λ (s : List AudioParamEvent). take (q.len - m) (drop m s)) (slots_split q h)
    ∙ behind_front (waiting q) (map slot_of (replicate (most_events - length (waiting q)) blank_event)) q.len m (count q h) g
    ∙ ap (map slot_of) (ap (λ (k : ℕ). drop k (waiting q)) e ∙ behind_most (waiting q) n q.len (count q h))

-- ---- another event at a place in use

pub replaced : (q : AudioParamEventTimeline) → Neat q → (i : ℕ) (e : Event) → i < q.len
    → ◌≡◌ {A = AudioParamEventTimeline} (record { slots = set q.slots i (slot_of e); len = q.len }) (made (set (waiting q) i e))
replaced q h i e l =
    let c : length (waiting q) ≡ q.len = count q h in
    let m : i < length (waiting q) = omega arith in
    filled-made
    (record {
      many = sym (length-set (waiting q) i e ∙ c);
      held =
          ap (λ (s : List AudioParamEvent). set s i (slot_of e)) (slots_are q h) ∙ sym (map-set slot_of (padded (waiting q)) i e)
          ∙ ap (map slot_of) (padded-set (waiting q) i e m);
    })

-- ---- offsets

pub offset_more : (es : List Event) (i : ℕ) → i < length es → lengths_of (take (i + 1) es) ≡ lengths_of (take i es) + length_of (get_or es i nothing)
unfolding lengths_of
offset_more es i h = rw (one_more es i h, lengths_append (take i es) (get_or es i nothing ∷ []), add-zero)

-- no offset is above the whole length
pub offset_most : (es : List Event) (i : ℕ) → lengths_of (take i es) ≤ lengths_of es
offset_most es i = omega (arith, lengths_split i es)
