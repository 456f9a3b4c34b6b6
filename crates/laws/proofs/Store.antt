-- The curve store: what is packed is read back, and what is read of a part of the queue. Assumes nothing.
use Rattle.std.proofs.Common.{Option}
use Rattle.rules.specs.declared.Finished.{Finished}
use mathlib.Core.Path.{◌≡◌, refl, sym, ap, ◌∙◌}
use mathlib.Core.Bool.{Bool, true, false, cond}
use mathlib.Core.List.{List, [], ◌∷◌, ◌++◌, append_assoc, append-nil}
use Prim.Native.Nat.{ℕ, zero, suc, ◌-◌, ◌≤◌}
use native.Mathlib.Nat.{le_of_eq}
use native.Mathlib.Omega.{arith}
use lib.ListN.{length, take, drop, replicate, length-append, length-replicate, length-drop, drop_of_length-le, take-append-drop}
use lib.Seq.{take_at, drop_at, take-add, drop-drop, length-take-le}
use lib.Ieee.{Float}
use Rattle.rules.specs.declared.Event.{Event}
use Rattle.rules.specs.declared.BlockInfos.{BlockInfos}
use Rattle.rules.specs.Numbers.{store_length, plus_zero}
use Rattle.rules.specs.Queue.{Waiting, alone, filed_under, is_ramp, length_of, lengths_of, events_of, numbers_of, packed, attached, head_of, place_behind, put_at, arrived, inserted, those, is_before, cancelled, held_at, runs_at, held_if_running, last_held, is_later, is_not_later, holds_ramp, held_by, held}
use Rattle.rules.specs.Block.{rendered}
use Rattle.laws.specs.Sound.{in_order}
use Rattle.laws.specs.Search.{first_later}
use Rattle.laws.specs.Fits.{Fits, AllFit}
use Rattle.laws.proofs.Tests.{never}
use Rattle.laws.proofs.Events.{events_attached, events_take, held_by_ramp, held_size}
use Rattle.laws.proofs.Ordered.{held_is}
use Rattle.laws.proofs.Walks.{Left, same, stepped, turned, snapped, Rest, none, here, later, rest_length, rendered_leaves}

-- ---- the numbers of a list

pub numbers-append : (xs ys : List Waiting) → numbers_of (xs ++ ys) ≡ numbers_of xs ++ numbers_of ys
unfolding numbers_of
numbers-append [] ys = refl
numbers-append (x ∷ xs) ys = rw (numbers-append xs ys) (sym (append_assoc x.numbers (numbers_of xs) (numbers_of ys)))

-- events that wait with all their numbers
pub numbers-length : (ws : List Waiting) → AllFit ws → length (numbers_of ws) ≡ lengths_of (events_of ws)
unfolding numbers_of lengths_of events_of
numbers-length [] h = refl
numbers-length (w ∷ ws) h = let n : length (numbers_of ws) ≡ lengths_of (events_of ws) = numbers-length ws h.1 in simp length-append (omega (arith, h.0))

pub fit_append : (xs ys : List Waiting) → AllFit xs → AllFit ys → AllFit (xs ++ ys)
fit_append [] ys f g = g
fit_append (x ∷ xs) ys f g = (f.0, fit_append xs ys f.1 g)

pub fit_take : (n : ℕ) (ws : List Waiting) → AllFit ws → AllFit (take n ws)
fit_take zero ws f = tt
fit_take (suc n) [] f = tt
fit_take (suc n) (w ∷ ws) f = (f.0, fit_take n ws f.1)

pub fit_drop : (n : ℕ) (ws : List Waiting) → AllFit ws → AllFit (drop n ws)
fit_drop zero ws f = f
fit_drop (suc n) [] f = tt
fit_drop (suc n) (w ∷ ws) f = fit_drop n ws f.1

-- the numbers of a part
module _ (n : ℕ) (ws : List Waiting) (f : AllFit ws) where
  two_parts : numbers_of ws ≡ numbers_of (take n ws) ++ numbers_of (drop n ws)
  two_parts = sym (ap numbers_of (take-append-drop n ws)) ∙ numbers-append (take n ws) (drop n ws)

  part_length : length (numbers_of (take n ws)) ≡ lengths_of (take n (events_of ws))
  part_length = numbers-length (take n ws) (fit_take n ws f) ∙ ap lengths_of (events_take n ws)

  pub numbers-take : numbers_of (take n ws) ≡ take (lengths_of (take n (events_of ws))) (numbers_of ws)
  numbers-take = rw two_parts (sym (take_at (numbers_of (take n ws)) (numbers_of (drop n ws)) (lengths_of (take n (events_of ws))) part_length))

  pub numbers-drop : numbers_of (drop n ws) ≡ drop (lengths_of (take n (events_of ws))) (numbers_of ws)
  numbers-drop = rw two_parts (sym (drop_at (numbers_of (take n ws)) (numbers_of (drop n ws)) (lengths_of (take n (events_of ws))) part_length))

-- ---- reading

pub attached-length : (q : List Event) (store : List Float) → length (attached q store) ≡ length q
unfolding attached
attached-length [] store = refl
attached-length (e ∷ q) store = ap suc (attached-length q (drop (length_of e) store))

pub attached-append : (p q : List Event) (store : List Float) → attached (p ++ q) store ≡ attached p store ++ attached q (drop (lengths_of p) store)
unfolding attached lengths_of
attached-append [] q store = refl
attached-append (e ∷ p) q store = rw (attached-append p q (drop (length_of e) store), drop-drop (lengths_of p) (length_of e) store)

pub attached-take : (n : ℕ) (q : List Event) (store : List Float) → attached (take n q) store ≡ take n (attached q store)
unfolding attached
attached-take zero q store = refl
attached-take (suc n) [] store = refl
attached-take (suc n) (e ∷ q) store =
    ap
    (λ (l : List Waiting). record { event = e; numbers = take (length_of e) store } ∷ l)
    (attached-take n q (drop (length_of e) store))

-- an event's numbers begin behind those of the events before it
pub attached-drop : (n : ℕ) (q : List Event) (store : List Float) → attached (drop n q) (drop (lengths_of (take n q)) store) ≡ drop n (attached q store)
unfolding attached lengths_of
attached-drop zero q store = refl
attached-drop (suc n) [] store = refl
attached-drop (suc n) (e ∷ q) store = rw (← drop-drop (lengths_of (take n q)) (length_of e) store) (attached-drop n q (drop (length_of e) store))

-- the numbers read are the first of the store
pub numbers-attached : (q : List Event) (store : List Float) → numbers_of (attached q store) ≡ take (lengths_of q) store
unfolding numbers_of attached lengths_of
numbers-attached [] store = refl
numbers-attached (e ∷ q) store = rw (numbers-attached q (drop (length_of e) store), take-add (length_of e) (lengths_of q) store)

-- and every waiting event has its own, where the store is long enough
pub attached_fits : (q : List Event) (store : List Float) → lengths_of q ≤ length store → AllFit (attached q store)
unfolding attached lengths_of
attached_fits [] store h = tt
attached_fits (e ∷ q) store h =
    (length-take-le (length_of e) store (omega arith), attached_fits q (drop (length_of e) store) (rw length-drop (omega arith)))

pub attached-numbers : (q : List Event) (store : List Float) → lengths_of q ≤ length store → length (numbers_of (attached q store)) ≡ lengths_of q
attached-numbers q store h = rw (numbers-attached q store) (length-take-le (lengths_of q) store h)

-- ---- packed, and read back

pub read_back : (ws : List Waiting) → AllFit ws → (tail : List Float) → attached (events_of ws) (numbers_of ws ++ tail) ≡ ws
unfolding attached events_of numbers_of
read_back [] h tail = refl
read_back (w ∷ ws) h tail =
    let xs : List Float = numbers_of ws ++ tail in
    let e : w.numbers ++ numbers_of ws ++ tail ≡ w.numbers ++ xs = append_assoc w.numbers (numbers_of ws) tail in
    rw (e, take_at w.numbers xs (length_of w.event) h.0, drop_at w.numbers xs (length_of w.event) h.0, read_back ws h.1 tail)

-- what an answered call leaves in the store is what the next one reads
pub packed_back : (ws : List Waiting) → AllFit ws → attached (events_of ws) (packed ws) ≡ ws
unfolding packed
packed_back ws h = read_back ws h (replicate (store_length - length (numbers_of ws)) plus_zero)

pub packed-length : (ws : List Waiting) → length (numbers_of ws) ≤ store_length → length (packed ws) ≡ store_length
unfolding packed
packed-length ws h = simp (length-append, length-replicate) (omega arith)

-- a part of the queue, packed: the store's first numbers, then zeros
pub packed-attached : (q : List Event) (store : List Float) → lengths_of q ≤ length store
    → packed (attached q store) ≡ take (lengths_of q) store ++ replicate (store_length - lengths_of q) plus_zero
unfolding packed
packed-attached q store h = rw (attached-numbers q store h, numbers-attached q store)

-- ---- an event that has no numbers

pub attached-put : (n : ℕ) (e : Event) (q : List Event) (store : List Float) → length_of e ≡ 0 → attached (put_at n e q) store ≡ put_at n (alone e) (attached q store)
unfolding put_at
attached-put n e q store z =
    rw (attached-append (take n q) (e ∷ drop n q) store, attached-take n q store, ← attached-drop n q store)
    (ap (λ (l : List Waiting). take n (attached q store) ++ l) (front (drop (lengths_of (take n q)) store)))
  where
    front : (s : List Float) → attached (e ∷ drop n q) s ≡ alone e ∷ attached (drop n q) s
    front s = unfold attached in rw z

-- no other event's numbers move, so the store stays as it is
pub attached-arrived : (e : Event) (q : List Event) (store : List Float) → length_of e ≡ 0 → attached (arrived e q) store ≡ inserted (alone e) (attached q store)
unfolding arrived inserted
attached-arrived e q store z = rw (events_attached q store) (attached-put (place_behind (filed_under e) q) e q store z)

-- ---- what the calls leave has its numbers

pub fit_put : (n : ℕ) (w : Waiting) (ws : List Waiting) → Fits w → AllFit ws → AllFit (put_at n w ws)
unfolding put_at
fit_put n w ws f g = fit_append (take n ws) (w ∷ drop n ws) (fit_take n ws g) (f, fit_drop n ws g)

pub fit_inserted : (w : Waiting) (ws : List Waiting) → Fits w → AllFit ws → AllFit (inserted w ws)
unfolding inserted
fit_inserted w ws f g = fit_put (place_behind (filed_under w.event) (events_of ws)) w ws f g

fit_those : (test : Waiting → Bool) (ws : List Waiting) → AllFit ws → AllFit (those test ws)
unfolding those
fit_those test [] f = tt
fit_those test (w ∷ ws) f = go (test w) (fit_those test ws f.1)
  where
    go : (b : Bool) → AllFit (those test ws) → AllFit (cond b (w ∷ those test ws) (those test ws))
    go true g = (f.0, g)
    go false g = g

pub fit_cancelled : (c : Float) (ws : List Waiting) → AllFit ws → AllFit (cancelled c ws)
unfolding cancelled
fit_cancelled c ws f = fit_those (is_before c) ws f

-- an event that is no curve has no numbers
pub no_numbers : (xs : List Float) → length xs ≡ 0 → xs ≡ []
no_numbers xs h = drop_of_length-le xs {i = 0} (le_of_eq h)

ramp_length : (e : Event) → is_ramp e ≡ true → length_of e ≡ 0
unfolding is_ramp length_of
ramp_length (Event.Step v t) r = refl
ramp_length (Event.Linear v t h) r = refl
ramp_length (Event.Exponential v t h) r = refl
ramp_length (Event.Target v t k h) r = refl
ramp_length (Event.Curve s d n h) r = never r

ramp_numbers : (w : Waiting) → Fits w → is_ramp w.event ≡ true → w.numbers ≡ []
ramp_numbers w f r = no_numbers w.numbers (f ∙ ramp_length w.event r)

module _ (c : Float) where
  fit_held_at : (w : Waiting) → Fits w → Fits (held_at c w)
  unfolding held_at
  fit_held_at w f = f ∙ sym (held_size c w.event)

  fit_last : (ws : List Waiting) → AllFit ws → AllFit (last_held c ws)
  unfolding last_held held_if_running
  fit_last [] f = tt
  fit_last (w ∷ []) f = go (runs_at c w.event)
    where
      go : (b : Bool) → AllFit (cond b (held_at c w) w ∷ [])
      go true = (fit_held_at w f.0, tt)
      go false = f
  fit_last (w ∷ x ∷ ws) f = (f.0, fit_last (x ∷ ws) f.1)

  fit_held_by : (early late : List Waiting) → AllFit early → AllFit late → AllFit (held_by c early late)
  unfolding held_by
  fit_held_by early [] f g = fit_last early f
  fit_held_by early (x ∷ late) f g = go (holds_ramp c early x)
    where
      go : (b : Bool) → AllFit (cond b (early ++ (held_at c x ∷ [])) (last_held c early))
      go true = fit_append early (held_at c x ∷ []) f (fit_held_at x g.0, tt)
      go false = fit_last early f

  pub fit_held : (ws : List Waiting) → AllFit ws → AllFit (held c ws)
  unfolding held
  fit_held ws f = fit_held_by (those (is_not_later c) ws) (those (is_later c) ws) (fit_those (is_not_later c) ws f) (fit_those (is_later c) ws f)

  -- a hold moves no number
  pub numbers-last_held : (ws : List Waiting) → numbers_of (last_held c ws) ≡ numbers_of ws
  unfolding numbers_of last_held held_if_running
  numbers-last_held [] = refl
  numbers-last_held (w ∷ []) = go (runs_at c w.event)
    where
      go : (b : Bool) → numbers_of (cond b (held_at c w) w ∷ []) ≡ numbers_of (w ∷ [])
      go true = unfold held_at numbers_of in refl
      go false = refl
  numbers-last_held (w ∷ x ∷ ws) = ap (λ (l : List Float). w.numbers ++ l) (numbers-last_held (x ∷ ws))

  -- the ramp just held has none
  numbers-held_by : (early late : List Waiting) → AllFit late → numbers_of (held_by c early late) ≡ numbers_of early
  unfolding held_by
  numbers-held_by early [] f = numbers-last_held early
  numbers-held_by early (x ∷ late) f = go (holds_ramp c early x) refl
    where
      go : (b : Bool) → holds_ramp c early x ≡ b → numbers_of (cond b (early ++ (held_at c x ∷ [])) (last_held c early)) ≡ numbers_of early
      go true r =
          numbers-append early (held_at c x ∷ [])
          ∙ unfold numbers_of held_at in (rw (ramp_numbers x f.0 (held_by_ramp c early x r)) (append-nil (numbers_of early)))
      go false r = numbers-last_held early

  pub numbers-held : (ws : List Waiting) → AllFit ws → in_order (events_of ws) ≡ true → numbers_of (held c ws) ≡ numbers_of (take (first_later c (events_of ws)) ws)
  numbers-held ws f o =
      rw (held_is c ws o) (numbers-held_by (take (first_later c (events_of ws)) ws) (drop (first_later c (events_of ws)) ws) (fit_drop (first_later c (events_of ws)) ws f))

pub numbers-put : (n : ℕ) (w : Waiting) (ws : List Waiting) → numbers_of (put_at n w ws) ≡ numbers_of (take n ws) ++ (w.numbers ++ numbers_of (drop n ws))
unfolding put_at
numbers-put n w ws = numbers-append (take n ws) (w ∷ drop n ws) ∙ ap (λ (l : List Float). numbers_of (take n ws) ++ l) first
  where
    first : numbers_of (w ∷ drop n ws) ≡ w.numbers ++ numbers_of (drop n ws)
    first = unfold numbers_of in refl

-- ---- and what a walk leaves: a head that stays is as it was, or has become a step

left_fits : (f : BlockInfos) (x y : Waiting) (n : Option Event) → Left f x n y → Fits x → Fits y
unfolding length_of
left_fits f x y n same h = h
left_fits f x y n (stepped is) h = refl
left_fits f x y n (turned is) h = refl
left_fits f x y n (snapped is free) h = refl

pub left-numbers : (f : BlockInfos) (x y : Waiting) (n : Option Event) → Left f x n y → Fits x → y.numbers ≡ x.numbers
unfolding length_of
left-numbers f x y n same h = refl
left-numbers f x y n (stepped is) h = sym (no_numbers x.numbers (h ∙ ap length_of is))
left-numbers f x y n (turned is) h = sym (no_numbers x.numbers (h ∙ ap length_of is))
left-numbers f x y n (snapped is free) h = sym (no_numbers x.numbers (h ∙ ap length_of is))

-- the numbers left are those of the last events
pub rest_numbers : (f : BlockInfos) (ws ys : List Waiting) → Rest f ws ys → AllFit ws → numbers_of ys ≡ numbers_of (drop (length ws - length ys) ws)
rest_numbers f ws ys none h = refl
rest_numbers f ws ys (here {x = x} {y = y} {xs = xs} l) h =
    let z : suc (length xs) - suc (length xs) ≡ 0 = omega arith in
    rw z (unfold numbers_of in ap (λ (ns : List Float). ns ++ numbers_of xs) (left-numbers f x y (head_of xs) l h.0))
rest_numbers f ws ys (later {xs = xs} {ys = zs} r) h =
    let z : suc (length xs) - length zs ≡ suc (length xs - length zs) = omega (arith, rest_length f xs zs r) in
    rw z (rest_numbers f xs zs r h.1)

pub rest_fits : (f : BlockInfos) (ws ys : List Waiting) → Rest f ws ys → AllFit ws → AllFit ys
rest_fits f ws ys none h = h
rest_fits f ws ys (here {x = x} {y = y} {xs = xs} l) h = (left_fits f x y (head_of xs) l h.0, h.1)
rest_fits f ws ys (later {xs = xs} {ys = zs} r) h = rest_fits f xs zs r h.1

pub rendered_fits : (f : BlockInfos) (v : Float) (l : Option Finished) (ws : List Waiting) → AllFit ws → AllFit (rendered f v l ws).queue
rendered_fits f v l ws h = rest_fits f ws (rendered f v l ws).queue (rendered_leaves f v l ws) h
