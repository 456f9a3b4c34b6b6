-- How far events reach: what lies inside a curve is at or after its filed time and before its reach, so that one law serves every event. Assumes nothing.
use Rattle.std.proofs.Common.{Option, Some, None}
use mathlib.Core.Path.{◌≡◌, refl, sym, ◌∙◌}
use mathlib.Core.Bool.{Bool, true, false, not, ◌&&◌}
use mathlib.Core.List.{List, [], ◌∷◌}
use Prim.Native.Nat.{ℕ}
use borrow.Author.Tests.{not-true}
use lib.Ieee as Ieee
use lib.Ieee.{Float, binary64}
use Rattle.rules.specs.declared.Event.{Event}
use Rattle.rules.specs.Numbers.{is_finite, is_positive, later_of}
use Rattle.rules.specs.Queue.{hold_or, filed_under, is_ramp, curve_end, is_inside, covers, any, any_covers, lasts_to}
use Rattle.rules.specs.Refusals.{is_period}
use Rattle.laws.specs.Sound.{is_number, is_taken_if_any, is_clear, reach_of, all}
use Rattle.laws.specs.Apart.{is_apart}
use Rattle.laws.proofs.Tests.{never, clash, both, and, neither}
use Rattle.laws.proofs.Order.{le_left, le_right, le_le, lt_le, not_lt, le_lt, le_not_lt, later_number, later_true, later_false, later_first, later_second}
use Rattle.laws.proofs.Results.{add_number, taken-parts, taken_number}
use Rattle.laws.proofs.Clear.{all_more, CurveParts, curve_parts, clear_number}

-- ---- a reach is in the order, at or behind the filed time

-- start + duration, or the hold time
pub end_number : (s d : Float) (n : ℕ) (h : Option Float) → CurveParts s d n h → is_number (curve_end s d h) ≡ true
unfolding curve_end hold_or is_period is_taken_if_any
end_number s d n None p = add_number binary64 s d (taken-parts s p.start).0 (both (is_finite d) (is_positive d) p.duration).0
end_number s d n (Some c) p = taken_number c p.hold

pub reach_number : (e : Event) → is_clear e ≡ true → is_number (reach_of e) ≡ true
unfolding reach_of
reach_number (Event.Step v t) k = clear_number (Event.Step v t) k
reach_number (Event.Linear v t h) k = clear_number (Event.Linear v t h) k
reach_number (Event.Exponential v t h) k = clear_number (Event.Exponential v t h) k
reach_number (Event.Target v t c h) k = clear_number (Event.Target v t c h) k
reach_number (Event.Curve s d n h) k =
    let p = curve_parts s d n h k in
    later_number s (curve_end s d h) (taken_number s p.start) (end_number s d n h p)

pub filed_before : (e : Event) (t : Float) → Ieee.le (reach_of e) t ≡ true → Ieee.le (filed_under e) t ≡ true
unfolding reach_of filed_under
filed_before (Event.Step v u) t l = l
filed_before (Event.Linear v u h) t l = l
filed_before (Event.Exponential v u h) t l = l
filed_before (Event.Target v u c h) t l = l
filed_before (Event.Curve s d n h) t l = later_first s (curve_end s d h) t l

-- what is filed before c and lasts to it reaches as far
pub lasts_up_to : (c : Float) (e : Event) (t : Float) → Ieee.lt (filed_under e) c ≡ true → lasts_to c e ≡ true → Ieee.le (reach_of e) t ≡ true → Ieee.le c t ≡ true
unfolding lasts_to reach_of filed_under
lasts_up_to c (Event.Step v u) t l m r = never m
lasts_up_to c (Event.Linear v u h) t l m r = never m
lasts_up_to c (Event.Exponential v u h) t l m r = never m
lasts_up_to c (Event.Target v u k h) t l m r = never m
lasts_up_to c (Event.Curve s d n h) t l m r =
    le_le c (curve_end s d h) t m (later_second s (curve_end s d h) t (le_left s c (lt_le s c l)) (le_right c (curve_end s d h) m) r)

-- ---- inside

none_inside : (x t : Float) → is_inside x x t ≡ false
unfolding is_inside
none_inside x t = go (Ieee.le x t) refl
  where
    go : (b : Bool) → Ieee.le x t ≡ b → (b && Ieee.lt t x) ≡ false
    go true l = le_not_lt x t l
    go false l = refl

covers_is : (t : Float) (e : Event) → covers t e ≡ is_inside (filed_under e) (reach_of e) t
unfolding covers reach_of filed_under
covers_is t (Event.Step v u) = sym (none_inside u t)
covers_is t (Event.Linear v u h) = sym (none_inside (hold_or h u) t)
covers_is t (Event.Exponential v u h) = sym (none_inside (hold_or h u) t)
covers_is t (Event.Target v u c h) = sym (none_inside u t)
covers_is t (Event.Curve s d n h) = go (curve_end s d h) (Ieee.lt s (curve_end s d h)) refl
  where
    before : (end : Float) (a b : Bool) → Ieee.le s t ≡ a → Ieee.lt t end ≡ b → Ieee.lt s end ≡ false → (a && b) ≡ false
    before end true true l m n = clash (le_lt s t end l m) n
    before end true false l m n = refl
    before end false b l m n = refl

    go : (end : Float) (b : Bool) → Ieee.lt s end ≡ b → is_inside s end t ≡ is_inside s (later_of s end) t
    go end true l = rw (later_true s end l)
    go end false l = rw (later_false s end l, none_inside s t) (unfold is_inside in before end (Ieee.le s t) (Ieee.lt t end) refl refl l)

pub covered : (t : Float) (e : Event) → covers t e ≡ true → (Ieee.le (filed_under e) t ≡ true) × (Ieee.lt t (reach_of e) ≡ true)
unfolding is_inside
covered t e h = both (Ieee.le (filed_under e) t) (Ieee.lt t (reach_of e)) (sym (covers_is t e) ∙ h)

pub not_covered : (t : Float) (e : Event) → (Ieee.le (filed_under e) t ≡ true → Ieee.lt t (reach_of e) ≡ false) → covers t e ≡ false
unfolding is_inside
not_covered t e h = covers_is t e ∙ go (Ieee.le (filed_under e) t) refl
  where
    go : (b : Bool) → Ieee.le (filed_under e) t ≡ b → (b && Ieee.lt t (reach_of e)) ≡ false
    go true l = h l
    go false l = refl

-- an event that starts at or before t and has not t inside reaches no further
pub uncovered : (t : Float) (e : Event) → is_number t ≡ true → is_clear e ≡ true → covers t e ≡ false → Ieee.le (filed_under e) t ≡ true → Ieee.le (reach_of e) t ≡ true
unfolding is_inside
uncovered t e n k c l = not_lt t (reach_of e) n (reach_number e k) (go (Ieee.lt t (reach_of e)) refl)
  where
    inside : Ieee.lt t (reach_of e) ≡ true → covers t e ≡ true
    inside m = covers_is t e ∙ unfold is_inside in (and l m)

    go : (b : Bool) → Ieee.lt t (reach_of e) ≡ b → b ≡ false
    go true m = clash (inside m) c
    go false m = refl

-- what has nothing inside, like a ramp
pub ramp_covers : (t : Float) (e : Event) → is_ramp e ≡ true → covers t e ≡ false
unfolding covers is_ramp
ramp_covers t (Event.Step v u) r = refl
ramp_covers t (Event.Linear v u h) r = refl
ramp_covers t (Event.Exponential v u h) r = refl
ramp_covers t (Event.Target v u c h) r = refl
ramp_covers t (Event.Curve s d n h) r = never r

pub none_in : (e : Event) → ((t : Float) → covers t e ≡ false) → (q : List Event) → any (λ d. covers (filed_under d) e) q ≡ false
unfolding any
none_in e n [] = refl
none_in e n (d ∷ q) = rw (n (filed_under d)) (none_in e n q)

-- ---- apart

pub apart_parts : (e d : Event) → is_apart e d ≡ true → (covers (filed_under e) d ≡ false) × (covers (filed_under d) e ≡ false)
unfolding is_apart
apart_parts e d h =
    let a = both (not (covers (filed_under e) d)) (not (covers (filed_under d) e)) h in (not-true _ a.0, not-true _ a.1)

pub apart-whole : (e d : Event) → covers (filed_under e) d ≡ false → covers (filed_under d) e ≡ false → is_apart e d ≡ true
unfolding is_apart
apart-whole e d h k = rw (h, k)

pub apart_sym : (e d : Event) → is_apart e d ≡ true → is_apart d e ≡ true
apart_sym e d h = let a = apart_parts e d h in apart-whole d e a.1 a.0

-- an event of which nothing waiting has the time inside, and which has no waiting one's
pub free : (e : Event) (q : List Event) → any_covers (filed_under e) q ≡ false → any (λ d. covers (filed_under d) e) q ≡ false → all (is_apart e) q ≡ true
unfolding any_covers any all
free e [] h k = refl
free e (d ∷ q) h k =
    let a = neither (covers (filed_under e) d) _ h in
    let b = neither (covers (filed_under d) e) _ k in
    all_more (is_apart e) d q (apart-whole e d a.0 b.0) (free e q a.1 b.1)
