-- What the writer writes the reader accepts: of a queue before the first block each event is in turn, and its call is answered behind those before it. Assumes nothing.
use Rattle.std.proofs.Common.{Some, None, Ok}
use mathlib.Core.Path.{◌≡◌, refl, sym, ◌∙◌}
use mathlib.Core.Bool.{Bool, true, false}
use mathlib.Core.List.{List, [], ◌∷◌, ◌++◌}
use Prim.Native.Nat.{suc, ◌+◌, ◌*◌, ◌≤◌, ◌<◌}
use native.Mathlib.Nat.{zero-mul}
use native.Mathlib.Omega.{arith}
use lib.Dec.{T}
use lib.ListN.{length, length-append}
use lib.Ieee as Ieee
use lib.Ieee.{Float, nan, inf, fin, binary64, fits}
use borrow.Author.Tests.{not-true, lt-leb, le-ltb, eq-eqb, leb-true}
use Rattle.rules.specs.declared.Event.{Event}
use Rattle.rules.specs.Numbers.{most_events, store_length, plus_zero, is_finite, is_zero, is_positive, is_negative, taken_time}
use Rattle.rules.specs.Queue.{Waiting, hold_or, filed_under, curve_end, covers, any, any_covers, is_filed_inside, any_inside, events_of, packed, length_of, lengths_of}
use Rattle.rules.specs.Refusals.{lowest, all_finite, is_period, is_crossed, is_earlier, value_rows, exponential_rows, target_rows, curve_rows}
use Rattle.rules.specs.Block.{Command, step, linear, exponential, target, curve, Param, with_queue, called}
use Rattle.laws.specs.Fits.{Fits, AllFit}
use Rattle.laws.specs.Sound.{is_from_zero, is_clear, is_due, all, are_due, goes_before, in_order, SoundQueue}
use Rattle.laws.specs.Apart.{is_apart, are_apart}
use Rattle.laws.proofs.Tests.{never, clash, both, and}
use Rattle.laws.proofs.Order.{le_not_lt}
use Rattle.laws.proofs.Results.{positive_from_zero, taken-parts}
use Rattle.laws.proofs.Clear.{all-parts, step_parts, linear_parts, exponential_parts, target_parts, curve_parts}
use Rattle.laws.proofs.Events.{events_append, lengths_append}
use Rattle.laws.proofs.Store.{numbers-length, packed-length}
use Rattle.laws.proofs.Reach.{filed_before, apart_parts}
use Rattle.laws.proofs.Ordered.{order_parts}
use Rattle.words.specs.Words.{AreSingles}
use Rattle.card.specs.Card.{is_held, has_hold, time_of, is_minus_zero, has_no_constant, is_out_of_turn}
use Rattle.card.specs.Back.{FitEvent, command_of, last_time}
use Rattle.card.proofs.Fields.{and_false}
use Rattle.card.proofs.Arrives.{or_true, taken_is}
use Rattle.card.proofs.Kept.{scheduled_verdict, called_verdict}

-- ---- one event among others

module _ (test : Event → Bool) where
  pub all_middle : (q : List Event) (e : Event) (rest : List Event) → all test (q ++ (e ∷ rest)) ≡ true → test e ≡ true
  all_middle [] e rest h = (all-parts test e rest h).0
  all_middle (d ∷ q) e rest h = all_middle q e rest (all-parts test d (q ++ (e ∷ rest)) h).1

  pub all_front : (q rest : List Event) → all test (q ++ rest) ≡ true → all test q ≡ true
  unfolding all
  all_front [] rest h = refl
  all_front (d ∷ q) rest h = let a = both (test d) (all test (q ++ rest)) h in and a.0 (all_front q rest a.1)

-- it is not earlier than the one before
pub order_last : (q : List Event) (e : Event) (rest : List Event) → in_order (q ++ (e ∷ rest)) ≡ true → is_earlier (last_time q) (filed_under e) ≡ false
unfolding last_time is_earlier goes_before
order_last [] e rest h = refl
order_last (d ∷ []) e rest h = le_not_lt (filed_under d) (filed_under e) (filed_before d (filed_under e) (order_parts d (e ∷ rest) h).0)
order_last (d ∷ c ∷ q) e rest h = order_last (c ∷ q) e rest (order_parts d ((c ∷ q) ++ (e ∷ rest)) h).1

-- it lies inside none of those before, and none of them inside it
pub apart_last : (q : List Event) (e : Event) (rest : List Event) → are_apart (q ++ (e ∷ rest)) ≡ true
    → (any_covers (filed_under e) q ≡ false) × (any (λ d. covers (filed_under d) e) q ≡ false)
unfolding are_apart any_covers any
apart_last [] e rest h = (refl, refl)
apart_last (d ∷ q) e rest h =
    let a = both (all (is_apart d) (q ++ (e ∷ rest))) (are_apart (q ++ (e ∷ rest))) h in
    let b = apart_parts d e (all_middle (is_apart d) q e rest a.0) in
    let c = apart_last q e rest a.1 in
    (rw b.1 c.0, rw b.0 c.1)

-- ---- its numbers

pub from_zero_not_minus : (t : Float) → is_from_zero t ≡ true → is_minus_zero t ≡ false
unfolding is_minus_zero
from_zero_not_minus t h = rw h (and_false (is_zero t))

from_zero_not_negative : (t : Float) → is_from_zero t ≡ true → is_negative t ≡ false
unfolding is_from_zero is_negative Ieee.lt
from_zero_not_negative nan h = never h
from_zero_not_negative (inf true) h = never h
from_zero_not_negative (inf false) h = refl
from_zero_not_negative (fin true m e) h = never h
from_zero_not_negative (fin false m e) h = rw (zero-mul (Ieee.down e)) (le-ltb (m * Ieee.up e * 1) 0 (omega arith))

positive_not_zero : (c : Float) → is_positive c ≡ true → is_zero c ≡ false
unfolding is_positive
positive_not_zero c h = go (is_zero c) refl
  where
    go : (z : Bool) → is_zero c ≡ z → z ≡ false
    go true k = clash h (le_not_lt c plus_zero (unfold Ieee.le is_zero in rw k (or_true (Ieee.lt c plus_zero))))
    go false k = refl

-- ---- its call is answered

module _ (q : List Event) (few : length q < most_events) where
  module _ (t : Float) (fine : is_finite t ≡ true) (from : is_from_zero t ≡ true) (f : T (fits binary64 t)) (free : any_covers t q ≡ false) where
    as_given : taken_time t ≡ t
    as_given = taken_is t f (from_zero_not_minus t from)

    value_answers : (v : Float) → is_finite v ≡ true → lowest (value_rows q v t) ≡ Ok tt
    unfolding value_rows lowest all_finite
    value_answers v h = rw (h, fine, from_zero_not_negative t from, as_given, free, lt-leb most_events (length q) few) refl

    exponential_answers : (v : Float) → is_finite v ≡ true → is_zero v ≡ false → lowest (exponential_rows q v t) ≡ Ok tt
    unfolding exponential_rows lowest all_finite
    exponential_answers v h z = rw (h, fine, from_zero_not_negative t from, z, as_given, free, lt-leb most_events (length q) few) refl

    target_answers : (v c : Float) → is_finite v ≡ true → is_finite c ≡ true → is_positive c ≡ true → lowest (target_rows q v t c) ≡ Ok tt
    unfolding target_rows lowest all_finite
    target_answers v c h fc pc =
        rw (h, fine, fc, from_zero_not_negative t from, from_zero_not_negative c (positive_from_zero c pc), as_given, free, lt-leb most_events (length q) few) refl

    curve_answers : (store : List Float) (d : Float) (xs : List Float) → is_finite d ≡ true → is_positive d ≡ true → all_finite xs ≡ true → 2 ≤ length xs
        → any_inside t (curve_end t d None) q ≡ false → lengths_of q + length xs ≤ store_length → length store ≡ store_length
        → lowest (curve_rows q store t d xs) ≡ Ok tt
    unfolding curve_rows lowest all_finite is_crossed
    curve_answers store d xs fd pd fx two none room lent =
        rw (fine, fd, fx, from_zero_not_negative t from, pd, le-ltb (length xs) 2 two, as_given, free, none, lt-leb most_events (length q) few, le-ltb store_length (lengths_of q + length xs) room, eq-eqb (length store) store_length lent) refl

-- ---- a queue that can be written

-- a waiting event that can be written
pub record Writable (w : Waiting) : Type 0 where
  pub long : Fits w
  pub free : is_held w.event ≡ false
  pub finite : all_finite w.numbers ≡ true
  pub event : FitEvent w.event
  pub numbers : AreSingles w.numbers

abbrev pub AllWritable : List Waiting → Type 0
AllWritable [] = Unit {0}
AllWritable (w ∷ ws) = Writable w × AllWritable ws

pub writable_middle : (ws : List Waiting) (v : Waiting) (vs : List Waiting) → AllWritable (ws ++ (v ∷ vs)) → Writable v
writable_middle [] v vs h = h.0
writable_middle (w ∷ ws) v vs h = writable_middle ws v vs h.1

pub writable_fit : (ws vs : List Waiting) → AllWritable (ws ++ vs) → AllFit ws
writable_fit [] vs h = tt
writable_fit (w ∷ ws) vs h = (h.0.long, writable_fit ws vs h.1)

pub record Good (zs : List Waiting) : Type 0 where
  pub sound : SoundQueue (events_of zs)
  pub due : are_due false (events_of zs) ≡ true
  pub apart : are_apart (events_of zs) ≡ true
  pub each : AllWritable zs

-- the call of an event behind these is answered, and in turn
pub record Accepts (p : Param) (ws : List Waiting) (c : Command) : Type 0 where
  pub answered : (called (with_queue (events_of ws) p) (packed ws) c).verdict ≡ Ok tt
  pub turn : is_out_of_turn (last_time (events_of ws)) c ≡ false

pub events_middle : (ws : List Waiting) (v : Waiting) (vs : List Waiting) → events_of (ws ++ (v ∷ vs)) ≡ events_of ws ++ (v.event ∷ events_of vs)
unfolding events_of
events_middle ws v vs = events_append ws (v ∷ vs)

pub lengths_middle : (q : List Event) (e : Event) (rest : List Event) → lengths_of (q ++ (e ∷ rest)) ≡ lengths_of q + (length_of e + lengths_of rest)
unfolding lengths_of
lengths_middle q e rest = lengths_append q (e ∷ rest)

due_finite : (e : Event) → is_due false e ≡ true → is_finite (filed_under e) ≡ true
unfolding is_due
due_finite e h = h

module _ (p : Param) (ws : List Waiting) where
  -- what is known of an event behind the events q
  record Behind (q : List Event) (e : Event) (xs : List Float) : Type 0 where
    clear : is_clear e ≡ true
    due : is_finite (filed_under e) ≡ true
    order : is_earlier (last_time q) (filed_under e) ≡ false
    outside : any_covers (filed_under e) q ≡ false
    around : any (λ d. covers (filed_under d) e) q ≡ false
    few : length q < most_events
    room : lengths_of q + length_of e ≤ store_length

  in_turn_by : (c : Command) → is_earlier (last_time (events_of ws)) (time_of c) ≡ false → is_from_zero (time_of c) ≡ true → has_no_constant c ≡ false → is_out_of_turn (last_time (events_of ws)) c ≡ false
  unfolding is_out_of_turn
  in_turn_by c o z n = rw (o, from_zero_not_minus (time_of c) z, n) refl

  accepts_as : (e : Event) (xs : List Float) → Writable (record { event = e; numbers = xs }) → Behind (events_of ws) e xs → length (packed ws) ≡ store_length → Accepts p ws (command_of e xs)
  unfolding called command_of FitEvent is_held has_hold time_of has_no_constant filed_under hold_or length_of
  accepts_as (Event.Step v t) xs w b lent =
      let k = step_parts v t b.clear in
      record {
        answered = scheduled_verdict _ _ _ _ ∙ value_answers (events_of ws) b.few t b.due k.1 w.event.1 b.outside v k.0;
        turn = in_turn_by (step v t) b.order k.1 refl;
      }
  accepts_as (Event.Linear v t (Some c)) xs w b lent = never (sym w.free)
  accepts_as (Event.Linear v t None) xs w b lent =
      let k = linear_parts v t None b.clear in
      let z : is_from_zero t ≡ true = (taken-parts t k.1.time).1 in
      record {
        answered = scheduled_verdict _ _ _ _ ∙ value_answers (events_of ws) b.few t b.due z w.event.1 b.outside v k.0;
        turn = in_turn_by (linear v t) b.order z refl;
      }
  accepts_as (Event.Exponential v t (Some c)) xs w b lent = never (sym w.free)
  accepts_as (Event.Exponential v t None) xs w b lent =
      let k = exponential_parts v t None b.clear in
      let z : is_from_zero t ≡ true = (taken-parts t k.2.time).1 in
      record {
        answered = scheduled_verdict _ _ _ _ ∙ exponential_answers (events_of ws) b.few t b.due z w.event.1 b.outside v k.0 (not-true _ k.1);
        turn = in_turn_by (exponential v t) b.order z refl;
      }
  accepts_as (Event.Target v t c (Some h)) xs w b lent = never (sym w.free)
  accepts_as (Event.Target v t c None) xs w b lent =
      let k = target_parts v t c None b.clear in
      let z : is_from_zero t ≡ true = (taken-parts t k.time).1 in
      let a = both (is_finite c) (is_positive c) (unfold is_period in k.constant) in
      record {
        answered = scheduled_verdict _ _ _ _ ∙ target_answers (events_of ws) b.few t b.due z w.event.1.0 b.outside v c k.value a.0 a.1;
        turn = in_turn_by (target v t c) b.order z (positive_not_zero c a.1);
      }
  accepts_as (Event.Curve s d n (Some h)) xs w b lent = never (sym w.free)
  accepts_as (Event.Curve s d n None) xs w b lent =
      let k = curve_parts s d n None b.clear in
      let z : is_from_zero s ≡ true = (taken-parts s k.start).1 in
      let a = both (is_finite d) (is_positive d) (unfold is_period in k.duration) in
      let two : 2 ≤ length xs = rw w.long (leb-true 2 n k.enough) in
      let fit : lengths_of (events_of ws) + length xs ≤ store_length = rw w.long b.room in
      record {
        answered = called_verdict _ _ _ _ _ ∙ curve_answers (events_of ws) b.few s b.due z w.event.0 b.outside (packed ws) d xs a.0 a.1 w.finite two (unfold any_inside is_filed_inside covers in b.around) fit lent;
        turn = in_turn_by (curve s d xs) b.order z refl;
      }

  pub accepts : (v : Waiting) (vs : List Waiting) → Good (ws ++ (v ∷ vs)) → Accepts p ws (command_of v.event v.numbers)
  accepts v vs g =
      let q : List Event = events_of ws in
      let e : Event = v.event in
      let split : events_of (ws ++ (v ∷ vs)) ≡ q ++ (e ∷ events_of vs) = events_middle ws v vs in
      let few : length (q ++ (e ∷ events_of vs)) ≤ most_events = rw split at g.sound.few in
      let room : lengths_of (q ++ (e ∷ events_of vs)) ≤ store_length = rw split at g.sound.room in
      let apart = apart_last q e (events_of vs) (rw split at g.apart) in
      let fit : AllFit ws = writable_fit ws (v ∷ vs) g.each in
      let sum : lengths_of (q ++ (e ∷ events_of vs)) ≡ lengths_of q + (length_of e + lengths_of (events_of vs)) = lengths_middle q e (events_of vs) in
      let many : length (q ++ (e ∷ events_of vs)) ≡ length q + suc (length (events_of vs)) = length-append q (e ∷ events_of vs) in
      let behind : Behind q e v.numbers =
      record {
        clear = all_middle is_clear q e (events_of vs) (rw split at g.sound.clear);
        due = due_finite e (all_middle (is_due false) q e (events_of vs) (rw split at g.due));
        order = order_last q e (events_of vs) (rw split at g.sound.ordered);
        outside = apart.0;
        around = apart.1;
        few = omega (arith, few, many);
        room = omega (arith, room, sum);
      } in
      accepts_as e v.numbers (writable_middle ws v vs g.each) behind (packed-length ws (omega (arith, numbers-length ws fit, room, sum)))
