-- Tests of every event of a queue, and what a clear event has. Assumes nothing.
use Rattle.std.proofs.Common.{Option, Some, None}
use mathlib.Core.Path.{◌≡◌, refl, sym}
use mathlib.Core.Bool.{Bool, true, false, not, ◌&&◌, and-true, and_assoc}
use mathlib.Core.List.{List, [], ◌∷◌, ◌++◌}
use Prim.Native.Nat.{ℕ, zero, suc}
use lib.Dec.{leb}
use lib.ListN.{take, drop}
use lib.Ieee as Ieee
use lib.Ieee.{Float, binary64}
use Rattle.rules.specs.declared.Event.{Event}
use Rattle.rules.specs.Numbers.{is_finite, is_zero}
use Rattle.rules.specs.Queue.{hold_or, filed_under, put_at}
use Rattle.rules.specs.Refusals.{is_period}
use Rattle.laws.specs.Sound.{is_number, is_from_zero, is_taken, is_taken_if_any, is_held_by, is_held_from, is_span, is_curve_hold, fewest_numbers, is_clear, is_due, all, are_due}
use Rattle.laws.proofs.Tests.{both, and}
use Rattle.laws.proofs.Order.{number_le}
use Rattle.laws.proofs.Results.{from_zero_number, taken_number}

-- ---- a test of every event

module _ (test : Event → Bool) where
  pub all-parts : (e : Event) (q : List Event) → all test (e ∷ q) ≡ true → (test e ≡ true) × (all test q ≡ true)
  unfolding all
  all-parts e q h = both (test e) (all test q) h

  pub all_more : (e : Event) (q : List Event) → test e ≡ true → all test q ≡ true → all test (e ∷ q) ≡ true
  unfolding all
  all_more e q h k = and h k

  pub all_append : (p q : List Event) → all test p ≡ true → all test q ≡ true → all test (p ++ q) ≡ true
  all_append [] q h k = k
  all_append (e ∷ p) q h k = let a = all-parts e p h in all_more e (p ++ q) a.0 (all_append p q a.1 k)

  pub all_take : (n : ℕ) (q : List Event) → all test q ≡ true → all test (take n q) ≡ true
  unfolding all
  all_take zero q h = refl
  all_take (suc n) [] h = refl
  all_take (suc n) (e ∷ q) h = let a = all-parts e q h in and a.0 (all_take n q a.1)

  pub all_drop : (n : ℕ) (q : List Event) → all test q ≡ true → all test (drop n q) ≡ true
  all_drop zero q h = h
  all_drop (suc n) [] h = h
  all_drop (suc n) (e ∷ q) h = all_drop n q (all-parts e q h).1

  pub all-put : (n : ℕ) (e : Event) (q : List Event) → test e ≡ true → all test q ≡ true → all test (put_at n e q) ≡ true
  unfolding put_at
  all-put n e q h k = all_append (take n q) (e ∷ drop n q) (all_take n q k) (all_more e (drop n q) h (all_drop n q k))

  -- one event more, as a loop over an array makes the test
  pub all_last : (q : List Event) (e : Event) → all test (q ++ (e ∷ [])) ≡ (all test q && test e)
  unfolding all
  all_last [] e = and-true (test e)
  all_last (d ∷ q) e = rw (all_last q e) (sym (and_assoc (test d) (all test q) (test e)))

-- ---- before the first answered block, and after it

pub finite_due : (played : Bool) (e : Event) → is_finite (filed_under e) ≡ true → is_due played e ≡ true
unfolding is_due
finite_due true e h = refl
finite_due false e h = h

pub all_due : (q : List Event) → are_due true q ≡ true
unfolding all is_due
all_due [] = refl
all_due (e ∷ q) = all_due q

-- ---- what a clear event has

-- a ramp's time and hold time
pub record Span (t : Float) (h : Option Float) : Type 0 where
  pub time : is_taken t ≡ true
  pub hold : is_taken_if_any h ≡ true
  pub before : is_held_by t h ≡ true

pub span_parts : (t : Float) (h : Option Float) → is_span t h ≡ true → Span t h
unfolding is_span
span_parts t h k =
    let a = both (is_taken t) _ k in
    let b = both (is_taken_if_any h) _ a.1 in
    record { time = a.0; hold = b.0; before = b.1 }

pub span_whole : (t : Float) (h : Option Float) → Span t h → is_span t h ≡ true
unfolding is_span
span_whole t h s = and s.time (and s.hold s.before)

-- it is filed under a time as the calls take it, at or before its own
pub span_taken : (t : Float) (h : Option Float) → Span t h → is_taken (hold_or h t) ≡ true
unfolding is_taken_if_any hold_or
span_taken t None s = s.time
span_taken t (Some c) s = s.hold

pub span_before : (t : Float) (h : Option Float) → Span t h → Ieee.le (hold_or h t) t ≡ true
unfolding is_held_by hold_or
span_before t None s = number_le t (taken_number t s.time)
span_before t (Some c) s = s.before

pub step_parts : (v t : Float) → is_clear (Event.Step v t) ≡ true → (is_finite v ≡ true) × (is_from_zero t ≡ true)
unfolding is_clear
step_parts v t h = both (is_finite v) (is_from_zero t) h

pub linear_parts : (v t : Float) (h : Option Float) → is_clear (Event.Linear v t h) ≡ true → (is_finite v ≡ true) × Span t h
unfolding is_clear
linear_parts v t h k = let a = both (is_finite v) (is_span t h) k in (a.0, span_parts t h a.1)

pub exponential_parts : (v t : Float) (h : Option Float) → is_clear (Event.Exponential v t h) ≡ true → (is_finite v ≡ true) × (not (is_zero v) ≡ true) × Span t h
unfolding is_clear
exponential_parts v t h k =
    let a = both (is_finite v) _ k in
    let b = both (not (is_zero v)) (is_span t h) a.1 in
    (a.0, b.0, span_parts t h b.1)

pub record TargetParts (v t c : Float) (h : Option Float) : Type 0 where
  pub value : is_finite v ≡ true
  pub time : is_taken t ≡ true
  pub constant : is_period c ≡ true
  pub hold : is_taken_if_any h ≡ true

pub target_parts : (v t c : Float) (h : Option Float) → is_clear (Event.Target v t c h) ≡ true → TargetParts v t c h
unfolding is_clear
target_parts v t c h k =
    let a = both (is_finite v) _ k in
    let b = both (is_taken t) _ a.1 in
    let d = both (is_period c) _ b.1 in
    record { value = a.0; time = b.0; constant = d.0; hold = d.1 }

pub record CurveParts (s d : Float) (n : ℕ) (h : Option Float) : Type 0 where
  pub start : is_taken s ≡ true
  pub duration : is_period d ≡ true
  pub hold : is_taken_if_any h ≡ true
  pub from : is_held_from s h ≡ true
  pub by : is_held_by (Ieee.add binary64 s d) h ≡ true
  pub enough : leb fewest_numbers n ≡ true

pub curve_parts : (s d : Float) (n : ℕ) (h : Option Float) → is_clear (Event.Curve s d n h) ≡ true → CurveParts s d n h
unfolding is_clear is_curve_hold
curve_parts s d n h k =
    let a = both (is_taken s) _ k in
    let b = both (is_period d) _ a.1 in
    let c = both (is_curve_hold s d h) _ b.1 in
    let x = both (is_taken_if_any h) _ c.0 in
    let y = both (is_held_from s h) _ x.1 in
    record { start = a.0; duration = b.0; hold = x.0; from = y.0; by = y.1; enough = c.1 }

pub curve_whole : (s d : Float) (n : ℕ) (h : Option Float) → CurveParts s d n h → is_clear (Event.Curve s d n h) ≡ true
unfolding is_clear is_curve_hold
curve_whole s d n h p = and p.start (and p.duration (and (and p.hold (and p.from p.by)) p.enough))

-- the time that it is filed under has a place in the order
pub clear_number : (e : Event) → is_clear e ≡ true → is_number (filed_under e) ≡ true
unfolding filed_under
clear_number (Event.Step v t) k = from_zero_number t (step_parts v t k).1
clear_number (Event.Linear v t h) k = taken_number (hold_or h t) (span_taken t h (linear_parts v t h k).1)
clear_number (Event.Exponential v t h) k = taken_number (hold_or h t) (span_taken t h (exponential_parts v t h k).2)
clear_number (Event.Target v t c h) k = taken_number t (target_parts v t c h k).time
clear_number (Event.Curve s d n h) k = taken_number s (curve_parts s d n h k).start
