-- A parameter of its parts: events taken one by one, and when all of it is sound. Assumes nothing.
use Rattle.std.proofs.Common.{Ok, Option, Some, None}
use Rattle.std.specs.Option.{is_some}
use mathlib.Core.Path.{◌≡◌, refl, sym, ap, ◌∙◌}
use mathlib.Core.Bool.{Bool, true, false, cond, ◌&&◌, ◌||◌, and-false, and_assoc}
use mathlib.Core.List.{List, [], ◌∷◌, ◌++◌}
use Prim.Native.Nat.{ℕ, ◌+◌, ◌-◌, ◌≤◌, ◌<◌}
use native.Mathlib.Numerals.{add-one}
use native.Mathlib.Omega.{arith}
use lib.Dec.{leb}
use lib.ListN.{length, take, get_or, set, get_or-map, length-append, length-map, length-take}
use lib.Seq.{take_all, take-suc, get_or-take, append_snoc}
use lib.Ieee as Ieee
use lib.Ieee.{Float, inf}
use borrow.Author.Tests.{le-leb, lt-leb}
use Rattle.rules.specs.declared.Event.{Event}
use Rattle.rules.specs.declared.AutomationRate.TheVariants as Rate
use Rattle.rules.specs.Numbers.{most_events, store_length, plus_zero, is_finite}
use Rattle.rules.specs.Queue.{filed_under, length_of, lengths_of}
use Rattle.rules.specs.Refusals.{lowest, all_finite, are_bounds, is_edition, making_rows}
use Rattle.rules.specs.Block.{made, made_as, edition_of}
use Rattle.laws.specs.Sound.{is_number, is_last_clear, reach_of, goes_before, in_order, is_clear, is_due, all, are_due, SoundQueue, is_sound_queue, has_played, are_block_times, Sound, is_sound}
use Rattle.laws.proofs.Tests.{clash, both, and}
use Rattle.laws.proofs.Order.{bottom}
use Rattle.laws.proofs.Events.{lengths_append}
use Rattle.laws.proofs.Clear.{all_take, all_last, clear_number}
use Rattle.laws.proofs.Tested.{tested, queue_tested, queue_passes, order_last}
use Rattle.laws.proofs.Queues.{prefix_sound}
use Rattle.laws.proofs.Kept.{made_sound}
use Rattle.timeline.specs.declared.AudioParamEvent.{AudioParamEvent}
use Rattle.timeline.specs.declared.AudioParamEventTimeline.{AudioParamEventTimeline}
use Rattle.timeline.specs.Timeline.{slot_of, waiting, made as queue_of}
use Rattle.timeline.proofs.Laws.{nothing, Filled, filled_more, filled-made}
use Rattle.param.specs.declared.AudioParam.{AudioParam}
use Rattle.param.specs.declared.Outcome.{Outcome}
use Rattle.param.specs.Param.{param_of, struct_of, nothing_made, unmade, parts_of, is_whole, Restores}
use Rattle.param.specs.Takes.{taken}
use Rattle.param.proofs.Calls.{struct_sound, same_test}

-- ---- restored, or not

nothing_sound : Sound nothing_made
unfolding made made_as making_rows lowest are_bounds is_edition edition_of all_finite is_finite Ieee.le Ieee.lt Ieee.eq
nothing_sound = made_sound (record { min = plus_zero; default = plus_zero; max = plus_zero }) Rate.A 1

pub restores_whole : {parts : AudioParam} {r : Outcome} → is_whole parts ≡ true
    → r ≡ record { verdict = (Ok tt); param = struct_of (param_of parts) } → Restores parts r
unfolding is_whole
restores_whole {parts} h e =
    let s : Sound (param_of parts) = tested (param_of parts) (both (leb parts.timeline.len most_events) (is_sound (param_of parts)) h).1 in
    record { gives = rw (h, e); sound = rw e (struct_sound (param_of parts) s) }

pub restores_not : {parts : AudioParam} {r : Outcome} → is_whole parts ≡ false → r ≡ unmade → Restores parts r
restores_not h e = record { gives = rw (h, e); sound = rw e (struct_sound nothing_made nothing_sound) }

-- more events than slots
pub too_many : (parts : AudioParam) → most_events < parts.timeline.len → is_whole parts ≡ false
unfolding is_whole
too_many parts h = rw (lt-leb parts.timeline.len most_events h)

-- ---- events taken one by one

-- the events are sound, and none is at +infinity before a block was answered
abbrev are_fine : Bool → List Event → Bool
are_fine played q = is_sound_queue q && are_due played q

-- the first i of them are so, have so many numbers, the last reaches so far, and they wait in these slots
pub record Took (es : List Event) (played : Bool) (used : ℕ) (before : Float) (i : ℕ) (slots : List AudioParamEvent) : Type 0 where
  pub sound : SoundQueue (take i es)
  pub due : are_due played (take i es) ≡ true
  pub many : used ≡ lengths_of (take i es)
  pub next : (e : Event) → is_number (filed_under e) ≡ true → in_order (take i es ++ (e ∷ [])) ≡ Ieee.le before (filed_under e)
  pub filled : Filled slots i (take i es)

pub took_none : (es : List Event) (played : Bool) {q : AudioParamEventTimeline} → q ≡ queue_of [] → Took es played 0 (inf true) 0 q.slots
unfolding in_order goes_before lengths_of all queue_of
took_none es played e =
    record {
      sound = record { few = omega arith; ordered = refl; clear = refl; room = omega arith };
      due = refl;
      many = refl;
      next = λ d n. sym (bottom (filed_under d) n);
      filled = record { many = refl; held = ap (λ (u : AudioParamEventTimeline). u.slots) e };
    }

module _ {es : List Event} {played : Bool} {used : ℕ} {before : Float} {i : ℕ} {slots : List AudioParamEvent} (t : Took es played used before i slots) (e : Event)
    (more : take (i + 1) es ≡ take i es ++ (e ∷ [])) (few : i < most_events) where
  abbrev fits : Bool
  fits = Ieee.le before (filed_under e) && (is_clear e && is_due played e && leb (length_of e) (store_length - used))

  abbrev q : List Event
  q = take i es

  room : leb (lengths_of (q ++ (e ∷ []))) store_length ≡ leb (length_of e) (store_length - used)
  unfolding lengths_of
  room =
      let m : lengths_of (q ++ (e ∷ [])) ≡ lengths_of q + length_of e = lengths_append q (e ∷ []) ∙ omega arith in
      let r : lengths_of q ≤ store_length = t.sound.room in
      let u : used ≡ lengths_of q = t.many in
      same_test (lengths_of (q ++ (e ∷ []))) store_length (length_of e) (store_length - used) (λ h. omega arith) (λ h. omega arith)

  -- one event more is so where it fits
  fits_is : are_fine played (take (i + 1) es) ≡ fits
  unfolding is_sound_queue
  fits_is = rw more (go (is_clear e) refl)
    where
      short : leb (length (q ++ (e ∷ []))) most_events ≡ true
      short = let n : i ≡ length q = t.filled.many in le-leb (length (q ++ (e ∷ []))) most_events (simp length-append (omega arith))

      none : (a b d : Bool) → (a && false && d) ≡ (b && false)
      none a b d = rw (and-false a) (sym (and-false b))

      -- the same tests in another order
      turned : (a d l : Bool) → (a && l && d) ≡ (a && (d && l))
      turned true true true = refl
      turned true true false = refl
      turned true false true = refl
      turned true false false = refl
      turned false d l = refl

      go : (b : Bool) → is_clear e ≡ b → are_fine played (q ++ (e ∷ [])) ≡ (Ieee.le before (filed_under e) && (b && is_due played e && leb (length_of e) (store_length - used)))
      go true h =
          rw (short, t.next e (clear_number e h), all_last is_clear q e, t.sound.clear, h, room, all_last (is_due played) q e, t.due)
          (turned (Ieee.le before (filed_under e)) (is_due played e) (leb (length_of e) (store_length - used)))
      go false h =
          rw (short, all_last is_clear q e, t.sound.clear, h) (none (in_order (q ++ (e ∷ []))) (Ieee.le before (filed_under e)) (are_due played (q ++ (e ∷ []))))

  took_more : {x : AudioParamEvent} → fits ≡ true → x ≡ slot_of e → Took es played (used + length_of e) (reach_of e) (i + 1) (set slots i x)
  unfolding lengths_of
  took_more h g =
      let b = both (is_sound_queue (take (i + 1) es)) _ (fits_is ∙ h) in
      let s : SoundQueue (take (i + 1) es) = queue_tested (take (i + 1) es) b.0 in
      record {
        sound = s;
        due = b.1;
        many = ap (λ (n : ℕ). n + length_of e) t.many ∙ sym (ap lengths_of more ∙ lengths_append q (e ∷ []) ∙ omega arith);
        next = λ d n. ap (λ (l : List Event). in_order (l ++ (d ∷ []))) more ∙ ap in_order (append_snoc q e (d ∷ [])) ∙ order_last q e d
            ∙ ap (λ (b : Bool). b && Ieee.le (reach_of e) (filed_under d)) (ap in_order (sym more) ∙ s.ordered);
        filled = filled_more t.filled few g more;
      }

  took_not : fits ≡ false → false ≡ are_fine played es
  took_not h = go (are_fine played es) refl
    where
      go : (b : Bool) → are_fine played es ≡ b → false ≡ b
      go false k = refl
      go true k =
          let a = both (is_sound_queue es) (are_due played es) k in
          clash (and (queue_passes _ (prefix_sound (i + 1) es (queue_tested es a.0))) (all_take (is_due played) (i + 1) es a.1)) (fits_is ∙ h)

  -- the same, as code finds its parts
  module _ {time : Float} {clear due : Bool} {size : ℕ} (et : time ≡ filed_under e) (ec : clear ≡ is_clear e) (ed : due ≡ (played || is_finite time))
      (es' : size ≡ length_of e) where
    found : (Ieee.le before time && (clear && due && leb size (store_length - used))) ≡ fits
    unfolding is_due
    found = rw (ed, et, ec, es')

    pub takes_more : {reach : Float} {x : AudioParamEvent} → (Ieee.le before time && (clear && due && leb size (store_length - used))) ≡ true → reach ≡ reach_of e → x ≡ slot_of e
        → Took es played (used + size) reach (i + 1) (set slots i x)
    takes_more h r g = rw (r, es') (took_more (sym found ∙ h) g)

    pub takes_not : (Ieee.le before time && (clear && due && leb size (store_length - used))) ≡ false → false ≡ are_fine played es
    takes_not h = took_not (sym found ∙ h)

-- all of them
pub took_all : {es : List Event} {played : Bool} {used len : ℕ} {before : Float} {i : ℕ} {slots : List AudioParamEvent} → Took es played used before i slots → i ≡ len
    → length es ≤ i → (true ≡ are_fine played es) × (◌≡◌ {A = AudioParamEventTimeline} (record { slots = slots; len = len }) (queue_of es))
took_all {es} {played} {i = i} {slots} t e h =
    let all : take i es ≡ es = take_all i es h in (
      sym (and (queue_passes es (rw all at t.sound)) (rw all at t.due)),
      ap (λ (n : ℕ). record { slots = slots; len = n }) (sym e) ∙ filled-made t.filled ∙ ap queue_of all,
    )

pub all_taken : (q : AudioParamEventTimeline) (played : Bool) {r : AudioParamEventTimeline} → (true ≡ are_fine played (waiting q)) × (r ≡ queue_of (waiting q)) → Some r ≡ taken q played
all_taken q played a = rw (← a.0) (ap (λ (q : AudioParamEventTimeline). Some q) a.1)

-- the event in a slot is the next that waits
pub slot_next : (q : AudioParamEventTimeline) (i : ℕ) → length q.slots ≡ most_events → i < q.len → q.len ≤ most_events
    → take (i + 1) (waiting q) ≡ take i (waiting q) ++ ((get_or q.slots i (slot_of nothing)).event ∷ [])
slot_next q i n l m =
    let few : i < length (waiting q) = simp (length-map, length-take) (omega arith) in
    rw (add-one, take-suc (waiting q) i nothing few)
    (ap (λ (e : Event). take i (waiting q) ++ (e ∷ []))
    (get_or-map (λ (s : AudioParamEvent). s.event) (take q.len q.slots) i (slot_of nothing)
    ∙ ap (λ (s : AudioParamEvent). s.event) (get_or-take q.len q.slots i (slot_of nothing) l)))

-- ---- all the parts

module _ (parts : AudioParam) (few : parts.timeline.len ≤ most_events) {t : Option AudioParamEventTimeline} {played : Bool} (k : t ≡ taken parts.timeline played)
    (ep : played ≡ has_played parts.block) where
  fine_is : is_some t ≡ are_fine played (waiting parts.timeline)
  fine_is = rw k (go (are_fine played (waiting parts.timeline)))
    where
      go : (b : Bool) → is_some (cond b (Some (queue_of (waiting parts.timeline))) None) ≡ b
      go true = refl
      go false = refl

  queue_is : {q : AudioParamEventTimeline} → t ≡ Some q → q ≡ queue_of (waiting parts.timeline)
  queue_is {q} e = go (are_fine played (waiting parts.timeline)) (sym e ∙ k)
    where
      go : (b : Bool) → Some q ≡ cond b (Some (queue_of (waiting parts.timeline))) None → q ≡ queue_of (waiting parts.timeline)
      go true f = cc
      go false f = let z : ◌≡◌ {A = ℕ} 0 1 = cc in absurd (omega arith)

  module _ {bounds last block : Bool} (eb : bounds ≡ are_bounds parts.bounds) (el : last ≡ is_last_clear parts.last) (et : block ≡ are_block_times parts.block parts.end) where
    whole_is : (is_some t && (bounds && (last && block))) ≡ is_whole parts
    unfolding is_whole is_sound
    whole_is =
        rw (le-leb parts.timeline.len most_events few, fine_is, ep, eb, el, et)
        (and_assoc (is_sound_queue (waiting parts.timeline)) _ _)

    pub restores_all : {q : AudioParamEventTimeline} {r : Outcome} → t ≡ Some q → (bounds && (last && block)) ≡ true
        → r ≡ record { verdict = (Ok tt); param = parts_of parts.bounds parts.rate parts.edition parts.intrinsic q parts.block parts.end parts.last } → Restores parts r
    restores_all m h e = restores_whole (sym whole_is ∙ rw (m, h)) (e ∙ rw (queue_is m))

    pub restores_bad : {r : Outcome} → (bounds && (last && block)) ≡ false → r ≡ unmade → Restores parts r
    restores_bad h e = restores_not (sym whole_is ∙ rw (h, and-false)) e

  -- the events are not sound
  pub restores_none : {r : Outcome} → t ≡ None → r ≡ unmade → Restores parts r
  restores_none h e = restores_not (sym (whole_is refl refl refl) ∙ rw h) e
