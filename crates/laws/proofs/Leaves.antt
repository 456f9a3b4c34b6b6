-- What a walk leaves is sound: its queue, and the last event's time. Assumes nothing.
use Rattle.std.proofs.Common.{Option, Some, None}
use Rattle.rules.specs.declared.Finished.{Finished}
use mathlib.Core.Path.{◌≡◌, refl}
use mathlib.Core.Bool.{Bool, true, false, cond}
use mathlib.Core.List.{List, [], ◌∷◌}
use Prim.Native.Nat.{ℕ, suc, ◌+◌, ◌≤◌}
use native.Mathlib.Omega.{arith}
use lib.ListN.{length}
use lib.Ieee as Ieee
use lib.Ieee.{Float, binary64}
use Rattle.rules.specs.declared.Event.{Event}
use Rattle.rules.specs.declared.BlockInfos.{BlockInfos}
use Rattle.rules.specs.Numbers.{most_events, store_length, is_finite, later_of}
use Rattle.rules.specs.Queue.{Waiting, hold_or, filed_under, is_ramp, curve_end, length_of, lengths_of, head_of, events_of}
use Rattle.rules.specs.Walk.{Walk, end_by_next, end_by_hold, counted, with_last, with_turned, fill, with_values, with_intrinsic, consumed, start_of, last_or}
use Rattle.rules.specs.Block.{rests_for, walk_from, values_before, rendered_as, rendered}
use Rattle.laws.specs.Sound.{is_number, is_from_zero, is_taken_if_any, is_clear, are_clear, reach_of, goes_before, in_order, SoundQueue, is_last_clear}
use Rattle.laws.proofs.Tests.{and}
use Rattle.laws.proofs.Order.{not_lt}
use Rattle.laws.proofs.Results.{from_zero_number, taken-parts, taken_number}
use Rattle.laws.proofs.Clear.{all-parts, all_more, span_taken, exponential_parts, target_parts, curve_parts, clear_number}
use Rattle.laws.proofs.Reach.{end_number}
use Rattle.laws.proofs.Ordered.{order_parts}
use Rattle.laws.proofs.Queues.{suffix_sound}
use Rattle.laws.proofs.Walks.{Timed, AllTimed, IfAny, Left, same, stepped, turned, snapped, Rest, none, here, later, Carries, walk_carries}

-- ---- the queue

-- the head becomes a step that is at or before the next event
step_sound : (e : Event) (q : List Event) (v t : Float) → is_finite v ≡ true → is_from_zero t ≡ true → goes_before t q ≡ true → SoundQueue (e ∷ q) → SoundQueue (Event.Step v t ∷ q)
unfolding in_order is_clear lengths_of length_of reach_of filed_under
step_sound e q v t n z g s =
    let a : suc (length q) ≤ most_events = s.few in
    let b : length_of e + lengths_of q ≤ store_length = s.room in
    record {
      few = a;
      ordered = and g (order_parts e q s.ordered).1;
      clear = all_more is_clear (Event.Step v t) q (and n z) (all-parts is_clear e q s.clear).1;
      room = omega arith;
    }

no_end_by_hold : (f : BlockInfos) (h e : Option Float) → end_by_hold f h e ≡ None → e ≡ None
unfolding end_by_hold
no_end_by_hold f None e k = k
no_end_by_hold f (Some c) e k = go (Ieee.lt c f.next) k
  where
    go : (b : Bool) → cond b (Some c) e ≡ None → e ≡ None
    go true k = cc
    go false k = k

-- a target that has no end is before the next event, and so is the step that it becomes
no_end_by_next : (f : BlockInfos) (t : Float) (xs : List Waiting) → is_number f.next ≡ true → are_clear (events_of xs) ≡ true
    → end_by_next f t (head_of xs) ≡ None → goes_before f.next (events_of xs) ≡ true
unfolding end_by_next head_of events_of goes_before
no_end_by_next f t [] n c k = refl
no_end_by_next f t (x ∷ xs) n c k = go (is_ramp x.event) (Ieee.lt (filed_under x.event) f.next) refl k
  where
    number : is_number (filed_under x.event) ≡ true
    number = clear_number x.event (all-parts is_clear x.event (events_of xs) c).0

    go : (r b : Bool) → Ieee.lt (filed_under x.event) f.next ≡ b
        → cond r (Some (later_of f.time t)) (cond b (Some (filed_under x.event)) None) ≡ None
        → Ieee.le f.next (filed_under x.event) ≡ true
    go true b e k = let z : ◌≡◌ {A = ℕ} 0 1 = cc in absurd (omega arith)
    go false true e k = let z : ◌≡◌ {A = ℕ} 0 1 = cc in absurd (omega arith)
    go false false e k = not_lt (filed_under x.event) f.next number n e

-- an exponential that becomes a step does so at the time that it is filed under
turned_sound : (v t : Float) (h : Option Float) (q : List Event) → SoundQueue (Event.Exponential v t h ∷ q) → SoundQueue (Event.Step v (hold_or h t) ∷ q)
unfolding reach_of filed_under
turned_sound v t h q s =
    let a = exponential_parts v t h (all-parts is_clear (Event.Exponential v t h) q s.clear).0 in
    step_sound
    (Event.Exponential v t h)
    q
    v
    (hold_or h t)
    a.0
    (taken-parts (hold_or h t) (span_taken t h a.2)).1
    (order_parts (Event.Exponential v t h) q s.ordered).0
    s

-- a target that snaps becomes a step at the next block time
snapped_sound : (f : BlockInfos) (v t c : Float) (h : Option Float) (xs : List Waiting) → is_from_zero f.next ≡ true
    → end_by_hold f h (end_by_next f t (head_of xs)) ≡ None → SoundQueue (Event.Target v t c h ∷ events_of xs)
    → SoundQueue (Event.Step v f.next ∷ events_of xs)
snapped_sound f v t c h xs z free s =
    let a = all-parts is_clear (Event.Target v t c h) (events_of xs) s.clear in
    step_sound
    (Event.Target v t c h)
    (events_of xs)
    v
    f.next
    (target_parts v t c h a.0).value
    z
    (no_end_by_next f t xs (from_zero_number f.next z) a.1 (no_end_by_hold f h (end_by_next f t (head_of xs)) free))
    s

left_sound : (f : BlockInfos) (x y : Waiting) (xs : List Waiting) → is_from_zero f.next ≡ true → Left f x (head_of xs) y → SoundQueue (x.event ∷ events_of xs)
    → SoundQueue (y.event ∷ events_of xs)
left_sound f x y xs n same s = s
left_sound f x y xs n (stepped is) s = rw is at s
left_sound f x y xs n (turned {v} {t} {h} is) s =
    let r : SoundQueue (Event.Exponential v t h ∷ events_of xs) = rw is at s in
    turned_sound v t h (events_of xs) r
left_sound f x y xs n (snapped {v} {t} {c} {h} is free) s =
    let r : SoundQueue (Event.Target v t c h ∷ events_of xs) = rw is at s in
    snapped_sound f v t c h xs n free r

pub rest_sound : (f : BlockInfos) (ws ys : List Waiting) → is_from_zero f.next ≡ true → Rest f ws ys → SoundQueue (events_of ws) → SoundQueue (events_of ys)
unfolding events_of
rest_sound f ws ys n none s = s
rest_sound f ws ys n (here {x = x} {y = y} {xs = xs} l) s = left_sound f x y xs n l s
rest_sound f ws ys n (later {x = x} {xs = xs} {ys = zs} r) s = rest_sound f xs zs n r (suffix_sound 1 (x.event ∷ events_of xs) s)

-- ---- the last event's time

abbrev Number : Float → Type 0
Number t = is_number t ≡ true

abbrev LastClear : Walk → Type 0
LastClear w = is_last_clear w.last ≡ true

any_number : (h : Option Float) → is_taken_if_any h ≡ true → IfAny Number h
unfolding is_taken_if_any
any_number None k = tt
any_number (Some c) k = taken_number c k

clear_timed : (e : Event) → is_clear e ≡ true → Timed Number e
clear_timed (Event.Step v t) h = record { filed = clear_number (Event.Step v t) h; ends = tt }
clear_timed (Event.Linear v t k) h = record { filed = clear_number (Event.Linear v t k) h; ends = tt }
clear_timed (Event.Exponential v t k) h = record { filed = clear_number (Event.Exponential v t k) h; ends = tt }
clear_timed (Event.Target v t c k) h =
    record { filed = clear_number (Event.Target v t c k) h; ends = any_number k (target_parts v t c k h).hold }
clear_timed (Event.Curve s d n k) h =
    record { filed = clear_number (Event.Curve s d n k) h; ends = unfold curve_end in end_number s d n k (curve_parts s d n k h) }

all-timed : (ws : List Waiting) → are_clear (events_of ws) ≡ true → AllTimed Number ws
unfolding events_of
all-timed [] h = tt
all-timed (w ∷ ws) h = let a = all-parts is_clear w.event (events_of ws) h in (clear_timed w.event a.0, all-timed ws a.1)

module _ (f : BlockInfos) (now : is_number f.time ≡ true) where
  start_clear : (v : Float) (l : Option Finished) → is_last_clear l ≡ true → is_number (last_or f v l).time ≡ true
  unfolding last_or is_last_clear
  start_clear v None h = now
  start_clear v (Some l) h = h

  last_carry : Carries f Number LastClear LastClear LastClear LastClear
  unfolding counted with_last with_turned fill with_values with_intrinsic consumed start_of is_last_clear
  last_carry =
      record {
        takes = λ w h. h;
        last = λ w h. start_clear w.intrinsic w.last h;
        stays = λ w h. h;
        turns = λ w h. h;
        fills = λ n sample w l h. h;
        flushes = λ target w h. h;
        intrinsic = λ v w h. h;
        consumes = λ t v w m h. m;
      }

  rendered_last_as : (b : Bool) (v : Float) (l : Option Finished) (ws : List Waiting) → are_clear (events_of ws) ≡ true → is_last_clear l ≡ true
      → is_last_clear (rendered_as b f v l ws).walk.last ≡ true
  unfolding rendered_as fill with_values
  rendered_last_as true v l ws c h = h
  rendered_last_as false v l ws c h =
      (walk_carries
      f
      Number
      LastClear
      LastClear
      LastClear
      LastClear
      now
      last_carry
      (λ w h. h)
      ws
      (all-timed ws c)
      (walk_from v l (values_before f.rate v) 0)
      h
      ).0

  pub rendered_last : (v : Float) (l : Option Finished) (ws : List Waiting) → are_clear (events_of ws) ≡ true → is_last_clear l ≡ true
      → is_last_clear (rendered f v l ws).walk.last ≡ true
  unfolding rendered
  rendered_last v l ws c h = rendered_last_as (rests_for f (head_of ws)) v l ws c h
