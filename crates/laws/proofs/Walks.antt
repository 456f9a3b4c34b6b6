-- What a walk keeps, and what it leaves of the queue: one law for every fact that the bodies keep. Assumes nothing.
use Rattle.std.proofs.Common.{Option, Some, None}
use Rattle.rules.specs.declared.Finished.{Finished}
use mathlib.Core.Path.{◌≡◌, refl}
use mathlib.Core.Bool.{Bool, true, false, cond}
use mathlib.Core.List.{List, [], ◌∷◌}
use Prim.Native.Nat.{ℕ, zero, suc, ◌+◌, ◌-◌, ◌≤◌}
use native.Mathlib.Omega.{arith}
use lib.ListN.{length, drop}
use lib.Ieee as Ieee
use lib.Ieee.{Float, binary64}
use Rattle.rules.specs.declared.Event.{Event}
use Rattle.rules.specs.declared.BlockInfos.{BlockInfos}
use Rattle.rules.specs.Numbers.{is_zero, later_of, place_from, periods_to, limit, end_place}
use Rattle.rules.specs.Samples.{is_ratio, ratio_of}
use Rattle.rules.specs.Queue.{Waiting, alone, hold_or, filed_under, is_ramp, head_of}
use Rattle.rules.specs.Walk.{Walk, Walked, Turn, stop, on, turn, turn_of, next, ended, fill, with_values, with_intrinsic, with_last, with_turned, consumed, walked, counted, step_from, step_turn, step_time, span_turn, linear_turn, exponential_turn, flushed_for, target_left, target_run, target_turn, end_by_next, end_by_hold, curve_turn, snaps, start_of}
use Rattle.rules.specs.Block.{rests_for, rendered, rendered_as, walk_from, values_before}

-- ---- an end place is at most the count

place_most : (q : Float) (k n : ℕ) → place_from q k n ≤ n + k
unfolding place_from
place_most q zero n = omega arith
place_most q (suc k) n = go (Ieee.lt q (limit n)) (place_most q k (suc n))
  where
    go : (b : Bool) → place_from q k (suc n) ≤ suc n + k → cond b n (place_from q k (suc n)) ≤ n + suc k
    go true h = omega arith
    go false h = omega arith

pub end_most : (f : BlockInfos) (t : Float) → end_place f t ≤ f.count
unfolding end_place
end_most f t = omega (arith, place_most (periods_to f t) f.count 0)

-- ---- what a head that stays has become, with n behind it: itself, or a step

pub data Left (f : BlockInfos) (x : Waiting) (n : Option Event) : Waiting → Type 0 where
  same : Left f x n x
  stepped : {v t : Float} → x.event ≡ Event.Step v t → Left f x n (alone (Event.Step v t))
  turned : {v t : Float} {h : Option Float} → x.event ≡ Event.Exponential v t h → Left f x n (alone (Event.Step v (hold_or h t)))
  snapped : {v t c : Float} {h : Option Float} → x.event ≡ Event.Target v t c h → end_by_hold f h (end_by_next f t n) ≡ None
      → Left f x n (alone (Event.Step v f.next))

-- ---- a body's answer: S of what it stops with, G of what it goes on with

pub data Turns (S : Walk → Waiting → Type 0) (G : Walk → Type 0) : Turn → Type 0 where
  stops : {w : Walk} {x : Waiting} → S w x → Turns S G (stop w x)
  goes : {w : Walk} → G w → Turns S G (on w)

pub by_cond : {S : Walk → Waiting → Type 0} {G : Walk → Type 0} (b : Bool) {s t : Turn} → Turns S G s → Turns S G t → Turns S G (cond b s t)
by_cond true g h = g
by_cond false g h = h

-- ---- T of every time that an event can end with: the one that it is filed under, and those beside

abbrev pub IfAny : (Float → Type 0) → Option Float → Type 0
IfAny T None = Unit {0}
IfAny T (Some t) = T t

abbrev pub EndsAt : (Float → Type 0) → Event → Type 0
EndsAt T (Event.Step v t) = Unit {0}
EndsAt T (Event.Linear v t h) = Unit {0}
EndsAt T (Event.Exponential v t h) = Unit {0}
EndsAt T (Event.Target v t c h) = IfAny T h
EndsAt T (Event.Curve s d n h) = T (hold_or h (Ieee.add binary64 s d))

pub record Timed (T : Float → Type 0) (e : Event) : Type 0 where
  pub filed : T (filed_under e)
  pub ends : EndsAt T e

abbrev pub AllTimed : (Float → Type 0) → List Waiting → Type 0
AllTimed T [] = Unit {0}
AllTimed T (w ∷ ws) = Timed T w.event × AllTimed T ws

abbrev pub HeadTimed : (Float → Type 0) → Option Event → Type 0
HeadTimed T None = Unit {0}
HeadTimed T (Some e) = T (filed_under e)

-- ---- what the bodies do: P before a head, D with it taken, E where it may have become a step, G with it consumed

pub record Carries (f : BlockInfos) (T : Float → Type 0) (P D E G : Walk → Type 0) : Type 1 where
  pub takes : (w : Walk) → P w → D (counted w)
  pub last : (w : Walk) → D w → D (with_last (start_of f w) w)
  pub stays : (w : Walk) → D w → E w
  pub turns : (w : Walk) → D w → E (counted (with_turned w))
  pub fills : (n : ℕ) (sample : Float → Float) (w : Walk) → n ≤ f.count → E w → E (fill f n sample w)
  pub flushes : (target : Float) (w : Walk) → E w → E (with_values (flushed_for target w.values) w)
  pub intrinsic : (v : Float) (w : Walk) → E w → E (with_intrinsic v w)
  pub consumes : (t v : Float) (w : Walk) → T t → E w → G (consumed t v w)

-- what holds where the head x stops, with n behind it
abbrev pub Stops : BlockInfos → (Walk → Type 0) → Waiting → Option Event → Walk → Waiting → Type 0
Stops f E x n w y = E w × Left f x n y

module _ (f : BlockInfos) (T : Float → Type 0) (P D E G : Walk → Type 0) (now : T f.time) (k : Carries f T P D E G) where
  filled_carries : (t : Float) (sample : Float → Float) (w : Walk) → E w → E (fill f (end_place f t) sample w)
  filled_carries t sample w h = k.fills (end_place f t) sample w (end_most f t) h

  -- the head x, with n behind it
  module _ (x : Waiting) (n : Option Event) where
    step_time_lem : (t : Float) → T t → T (step_time f t)
    unfolding step_time
    step_time_lem t h = go (is_zero t)
      where
        go : (b : Bool) → T (cond b f.time t)
        go true = now
        go false = h

    step_carries : (w : Walk) (v t : Float) → T t → Left f x n (alone (Event.Step v t)) → E w → Turns (Stops f E x n) G (step_turn f w v t)
    unfolding step_turn step_from
    step_carries w v t m l h =
        let g : E (fill f (end_place f (step_time f t)) (λ s. w.intrinsic) w) = filled_carries (step_time f t) (λ s. w.intrinsic) w h in
        by_cond (Ieee.lt f.next (step_time f t)) (stops (g, l)) (goes (k.consumes _ _ _ (step_time_lem t m) g))

    span_carries : (w : Walk) (t v : Float) (e : Option Float) (sample : Float → Float) → T (hold_or e t) → E w → Turns (Stops f E x n) G (span_turn f w x t v e sample)
    unfolding span_turn
    span_carries w t v e sample m h =
        let g : E (fill f (end_place f (hold_or e t)) sample w) = filled_carries (hold_or e t) sample w h in
        by_cond (Ieee.le f.next (hold_or e t)) (stops (k.intrinsic _ _ g, same)) (goes (k.consumes _ _ _ m g))

    left_carries : (w : Walk) (target v : Float) → Left f x n (alone (Event.Step target f.next)) → E w → Turns (Stops f E x n) G (target_left f w x target v)
    unfolding target_left
    left_carries w target v l h =
        by_cond (snaps target v) (stops (k.intrinsic target _ (k.flushes target w h), l)) (stops (k.intrinsic v w h, same))

    run_carries : (w : Walk) (target : Float) (sample : Float → Float) (e : Option Float) → IfAny T e
        → (e ≡ None → Left f x n (alone (Event.Step target f.next))) → E w → Turns (Stops f E x n) G (target_run f w x target sample e)
    unfolding target_run
    run_carries w target sample None m l h = left_carries _ target _ (l refl) (filled_carries f.next sample w h)
    run_carries w target sample (Some end) m l h = goes (k.consumes end _ _ m (filled_carries end sample w h))

    later_time : (t : Float) → T t → T (later_of f.time t)
    unfolding later_of
    later_time t h = go (Ieee.lt f.time t)
      where
        go : (b : Bool) → T (cond b t f.time)
        go true = h
        go false = now

    next_time : (t : Float) (m : Option Event) → T t → HeadTimed T m → IfAny T (end_by_next f t m)
    unfolding end_by_next
    next_time t None h g = tt
    next_time t (Some e) h g = go (is_ramp e) (Ieee.lt (filed_under e) f.next)
      where
        go : (b d : Bool) → IfAny T (cond b (Some (later_of f.time t)) (cond d (Some (filed_under e)) None))
        go true d = later_time t h
        go false true = g
        go false false = tt

    hold_time : (h e : Option Float) → IfAny T h → IfAny T e → IfAny T (end_by_hold f h e)
    unfolding end_by_hold
    hold_time None e g m = m
    hold_time (Some c) e g m = go (Ieee.lt c f.next)
      where
        go : (b : Bool) → IfAny T (cond b (Some c) e)
        go true = g
        go false = m

    turn_of_carries : (e : Event) → x.event ≡ e → Timed T e → HeadTimed T n → (w : Walk) → D w → Turns (Stops f E x n) G (turn_of f w x n e)
    unfolding turn_of linear_turn exponential_turn target_turn curve_turn filed_under
    turn_of_carries (Event.Step v t) is m g w h = step_carries w v t m.filed (stepped is) (k.stays _ h)
    turn_of_carries (Event.Linear v t e) is m g w h = span_carries _ t v e _ m.filed (k.stays _ (k.last w h))
    turn_of_carries (Event.Exponential v t e) is m g w h =
        by_cond
        (is_ratio (ratio_of (start_of f w) v))
        (span_carries _ t v e _ m.filed (k.stays _ (k.last w h)))
        (step_carries _ v (hold_or e t) m.filed (turned is) (k.turns _ (k.last w h)))
    turn_of_carries (Event.Target v t c e) is m g w h =
        by_cond
        (Ieee.lt f.next t)
        (stops (k.stays _ (k.last w h), same))
        (run_carries _ v _ _ (hold_time e (end_by_next f t n) m.ends (next_time t n m.filed g)) (λ none. snapped is none) (k.stays _ (k.last w h)))
    turn_of_carries (Event.Curve s d c e) is m g w h =
        by_cond (Ieee.lt f.next s) (stops (k.stays _ h, same)) (span_carries w _ _ e _ m.ends (k.stays _ h))

    pub turn_carries : (w : Walk) → Timed T x.event → HeadTimed T n → P w → Turns (Stops f E x n) G (turn f w x n)
    unfolding turn
    turn_carries w m g h = turn_of_carries x.event refl m g (counted w) (k.takes w h)

-- ---- what a walk leaves of a queue: a head that stayed and all behind it, or nothing

pub data Rest (f : BlockInfos) : List Waiting → List Waiting → Type 0 where
  none : Rest f [] []
  here : {x y : Waiting} {xs : List Waiting} → Left f x (head_of xs) y → Rest f (x ∷ xs) (y ∷ xs)
  later : {x : Waiting} {xs ys : List Waiting} → Rest f xs ys → Rest f (x ∷ xs) ys

-- the whole queue
pub rest_all : (f : BlockInfos) (ws : List Waiting) → Rest f ws ws
rest_all f [] = none
rest_all f (x ∷ xs) = here same

pub head_timed : (T : Float → Type 0) (ws : List Waiting) → AllTimed T ws → HeadTimed T (head_of ws)
unfolding head_of
head_timed T [] m = tt
head_timed T (w ∷ ws) m = m.0.filed

-- A walk keeps P; Q is what its end, the places left filled, makes of E.
module _ (f : BlockInfos) (T : Float → Type 0) (P D E Q : Walk → Type 0) (now : T f.time) (k : Carries f T P D E P)
    (end : (w : Walk) → E w → Q (fill f f.count (λ s. w.intrinsic) w)) where
  next_carries : (x : Waiting) (xs : List Waiting) (rest : Walk → Walked) → ((w : Walk) → P w → Q (rest w).walk × Rest f xs (rest w).queue) → (t : Turn)
      → Turns (Stops f E x (head_of xs)) P t → Q (next f xs rest t).walk × Rest f (x ∷ xs) (next f xs rest t).queue
  unfolding next ended
  next_carries x xs rest h (stop w y) (stops g) = (end w g.0, here g.1)
  next_carries x xs rest h (on w) (goes g) = let r = h w g in (r.0, later r.1)

  pub walk_carries : (ws : List Waiting) → AllTimed T ws → (w : Walk) → P w → Q (walked f w ws).walk × Rest f ws (walked f w ws).queue
  unfolding walked ended
  walk_carries [] m w h = (end (counted w) (k.stays _ (k.takes w h)), none)
  walk_carries (x ∷ xs) m w h =
      next_carries x xs (λ v. walked f v xs) (walk_carries xs m.1) (turn f w x (head_of xs))
      (turn_carries f T P D E P now k x (head_of xs) w m.0 (head_timed T xs m.1) h)

-- ---- the same where no time matters, and the fact is one

abbrev pub Any : Float → Type 0
Any t = Unit {0}

any : (e : Option Float) → IfAny Any e
any None = tt
any (Some t) = tt

pub any-timed : (e : Event) → Timed Any e
any-timed (Event.Step v t) = record { filed = tt; ends = tt }
any-timed (Event.Linear v t h) = record { filed = tt; ends = tt }
any-timed (Event.Exponential v t h) = record { filed = tt; ends = tt }
any-timed (Event.Target v t c h) = record { filed = tt; ends = any h }
any-timed (Event.Curve s d n h) = record { filed = tt; ends = tt }

pub all_any : (ws : List Waiting) → AllTimed Any ws
all_any [] = tt
all_any (w ∷ ws) = (any-timed w.event, all_any ws)

-- a fact of a walk that each of a body's doings keeps
pub record Kept (f : BlockInfos) (P : Walk → Type 0) : Type 1 where
  pub takes : (w : Walk) → P w → P (counted w)
  pub last : (w : Walk) → P w → P (with_last (start_of f w) w)
  pub turns : (w : Walk) → P w → P (counted (with_turned w))
  pub fills : (n : ℕ) (sample : Float → Float) (w : Walk) → n ≤ f.count → P w → P (fill f n sample w)
  pub flushes : (target : Float) (w : Walk) → P w → P (with_values (flushed_for target w.values) w)
  pub intrinsic : (v : Float) (w : Walk) → P w → P (with_intrinsic v w)
  pub consumes : (t v : Float) (w : Walk) → P w → P (consumed t v w)

pub walk_keeps : (f : BlockInfos) (P Q : Walk → Type 0) → Kept f P → ((w : Walk) → P w → Q (fill f f.count (λ s. w.intrinsic) w))
    → (ws : List Waiting) (w : Walk) → P w → Q (walked f w ws).walk
walk_keeps f P Q k end ws w h =
    (walk_carries
    f
    Any
    P
    P
    P
    Q
    tt
    (record {
      takes = k.takes;
      last = k.last;
      stays = λ w h. h;
      turns = k.turns;
      fills = k.fills;
      flushes = k.flushes;
      intrinsic = k.intrinsic;
      consumes = λ t v w m h. k.consumes t v w h;
    })
    end
    ws
    (all_any ws)
    w
    h
    ).0

-- ---- what is left, whatever is carried

abbrev pub Whatever : Walk → Type 0
Whatever w = Unit {0}

whatever : (f : BlockInfos) → Carries f Any Whatever Whatever Whatever Whatever
whatever f =
    record {
      takes = λ w h. tt;
      last = λ w h. tt;
      stays = λ w h. tt;
      turns = λ w h. tt;
      fills = λ n sample w l h. tt;
      flushes = λ target w h. tt;
      intrinsic = λ v w h. tt;
      consumes = λ t v w m h. tt;
    }

-- a head that stops is as it was, or has become a step
stopped_of : {S : Walk → Waiting → Type 0} {G : Walk → Type 0} {w : Walk} {y : Waiting} → Turns S G (stop w y) → S w y
stopped_of (stops s) = s

any_head : (n : Option Event) → HeadTimed Any n
any_head None = tt
any_head (Some e) = tt

pub stop_leaves : (f : BlockInfos) (w v : Walk) (x y : Waiting) (n : Option Event) → turn f w x n ≡ stop v y → Left f x n y
stop_leaves f w v x y n e =
    (stopped_of (rw e at (turn_carries f Any Whatever Whatever Whatever Whatever tt (whatever f) x n w (any-timed x.event) (any_head n) tt))).1

pub walk_leaves : (f : BlockInfos) (ws : List Waiting) (w : Walk) → Rest f ws (walked f w ws).queue
walk_leaves f ws w = (walk_carries f Any Whatever Whatever Whatever Whatever tt (whatever f) (λ w h. tt) ws (all_any ws) w tt).1

rendered_leaves_as : (b : Bool) (f : BlockInfos) (v : Float) (l : Option Finished) (ws : List Waiting) → Rest f ws (rendered_as b f v l ws).queue
unfolding rendered_as
rendered_leaves_as true f v l ws = rest_all f ws
rendered_leaves_as false f v l ws = walk_leaves f ws (walk_from v l (values_before f.rate v) 0)

pub rendered_leaves : (f : BlockInfos) (v : Float) (l : Option Finished) (ws : List Waiting) → Rest f ws (rendered f v l ws).queue
unfolding rendered
rendered_leaves f v l ws = rendered_leaves_as (rests_for f (head_of ws)) f v l ws

-- a walk never lengthens the queue
pub rest_length : (f : BlockInfos) (ws ys : List Waiting) → Rest f ws ys → length ys ≤ length ws
rest_length f ws ys none = omega arith
rest_length f ws ys (here l) = omega arith
rest_length f ws ys (later {xs = xs} {ys = zs} r) = omega (arith, rest_length f xs zs r)

pub walk_length : (f : BlockInfos) (ws : List Waiting) (w : Walk) → length (walked f w ws).queue ≤ length ws
walk_length f ws w = rest_length f ws (walked f w ws).queue (walk_leaves f ws w)

pub rendered-length : (f : BlockInfos) (v : Float) (l : Option Finished) (ws : List Waiting) → length (rendered f v l ws).queue ≤ length ws
rendered-length f v l ws = rest_length f ws (rendered f v l ws).queue (rendered_leaves f v l ws)

-- behind the head that stayed all wait as before
pub rest_tail : (f : BlockInfos) (ws ys : List Waiting) → Rest f ws ys → drop 1 ys ≡ drop (suc (length ws - length ys)) ws
rest_tail f ws ys none = refl
rest_tail f ws ys (here {xs = xs} l) = let z : suc (length xs) - suc (length xs) ≡ 0 = omega arith in rw z
rest_tail f ws ys (later {xs = xs} {ys = zs} r) =
    let z : suc (length xs) - length zs ≡ suc (length xs - length zs) = omega (arith, rest_length f xs zs r) in
    rw z (rest_tail f xs zs r)
