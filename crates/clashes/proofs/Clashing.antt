-- There is something in the way exactly where refusal 11 applies: the test of its row, for an event and for a curve. Assumes nothing.
use Rattle.std.proofs.Common.{Option, Some, None}
use mathlib.Core.Path.{◌≡◌, refl, sym, ap, ◌∙◌}
use mathlib.Core.Bool.{Bool, true, false, cond, ◌||◌}
use mathlib.Core.List.{List, [], ◌∷◌}
use Prim.Native.Nat.{ℕ}
use Rattle.std.specs.Prelude.{Option, None, Some}
use Rattle.std.specs.Option.{option_or}
use lib.Ieee.{Float}
use Rattle.rules.specs.declared.Event.{Event}
use Rattle.rules.specs.Numbers.{taken_time}
use Rattle.rules.specs.Queue.{curve_end, is_inside, covers, is_filed_inside, any, any_covers, any_inside, those}
use Rattle.rules.specs.Refusals.{is_crossed}
use Rattle.std.specs.Option.{is_some}
use Rattle.timeline.specs.Timeline.{first_of}
use Rattle.timeline.proofs.Steps.{first_is, any_find}
use Rattle.calls.specs.declared.Call.{Call}
use Rattle.clashes.specs.declared.Clash.{Clash}
use Rattle.clashes.specs.Clashes.{span_of, curve_in, event_in, covered_by, holding, clash_of}

-- ---- no other event than a curve has a span

pub no_span : (e : Event) → ((s d : Float) (n : ℕ) (h : _) → e ≡ Event.Curve s d n h → ⊥) → None ≡ span_of e
unfolding span_of
no_span (Event.Step v t) curve = refl
no_span (Event.Linear v t h) curve = refl
no_span (Event.Exponential v t h) curve = refl
no_span (Event.Target v t c h) curve = refl
no_span (Event.Curve s d n h) curve = absurd (curve s d n h refl)

-- ---- the calls that are not refused by 11

-- of every other call
pub no_clash : (q : List Event) (call : Call)
    → ((v : Float) → call ≡ Call.Set v → ⊥)
    → ((v t : Float) → call ≡ Call.Step v t → ⊥)
    → ((v t : Float) → call ≡ Call.Linear v t → ⊥)
    → ((v t : Float) → call ≡ Call.Exponential v t → ⊥)
    → ((v t c : Float) → call ≡ Call.Target v t c → ⊥)
    → ((t d : Float) (n : ℕ) → call ≡ Call.Curve t d n → ⊥)
    → None ≡ clash_of q (Some call)
unfolding clash_of
no_clash q Call.Nothing set step linear exponential target curve = refl
no_clash q (Call.Make b rate n) set step linear exponential target curve = refl
no_clash q (Call.Set v) set step linear exponential target curve = absurd (set v refl)
no_clash q (Call.Step v t) set step linear exponential target curve = absurd (step v t refl)
no_clash q (Call.Linear v t) set step linear exponential target curve = absurd (linear v t refl)
no_clash q (Call.Exponential v t) set step linear exponential target curve = absurd (exponential v t refl)
no_clash q (Call.Target v t c) set step linear exponential target curve = absurd (target v t c refl)
no_clash q (Call.Curve t d n) set step linear exponential target curve = absurd (curve t d n refl)
no_clash q (Call.Cancel t) set step linear exponential target curve = refl
no_clash q (Call.Hold t) set step linear exponential target curve = refl
no_clash q (Call.Block by t p n o i) set step linear exponential target curve = refl
no_clash q (Call.Lend n) set step linear exponential target curve = refl
no_clash q (Call.Poke i v) set step linear exponential target curve = refl
no_clash q Call.State set step linear exponential target curve = refl
no_clash q Call.Save set step linear exponential target curve = refl
no_clash q (Call.Load part n rate edition) set step linear exponential target curve = refl

-- ---- the others: whether something is in the way

unfoldable pub is_clash : Option Clash → Bool
is_clash None = false
is_clash (Some clash) = true

-- the first event that has t inside is a curve
first_is_curve : (t : Float) (q : List Event) → is_clash (curve_in (first_of (those (covers t) q))) ≡ any (covers t) q
unfolding is_clash curve_in span_of first_of those any covers
first_is_curve t [] = refl
first_is_curve t (Event.Step v u ∷ q) = first_is_curve t q
first_is_curve t (Event.Linear v u h ∷ q) = first_is_curve t q
first_is_curve t (Event.Exponential v u h ∷ q) = first_is_curve t q
first_is_curve t (Event.Target v u c h ∷ q) = first_is_curve t q
first_is_curve t (Event.Curve s d n h ∷ q) = by_test (is_inside s (curve_end s d h) t) (first_is_curve t q)
  where
    by_test : (b : Bool) → is_clash (curve_in (first_of (those (covers t) q))) ≡ any (covers t) q
        → is_clash (curve_in (first_of (cond b (Event.Curve s d n h ∷ those (covers t) q) (those (covers t) q)))) ≡ (b || any (covers t) q)
    by_test true k = unfold is_clash curve_in span_of first_of in refl
    by_test false k = k

-- of an event: the test of `inside_row`
pub event_clashes : (q : List Event) (t : Float) → is_clash (covered_by q t) ≡ any_covers (taken_time t) q
unfolding covered_by any_covers
event_clashes q t = first_is_curve (taken_time t) q

event_is_some : (h : Option Event) → is_clash (event_in h) ≡ is_some h
unfolding is_clash event_in
event_is_some None = refl
event_is_some (Some e) = refl

event_inside : (q : List Event) (t d : Float) → is_clash (holding q t d) ≡ any_inside (taken_time t) (curve_end (taken_time t) d None) q
unfolding holding any_inside
event_inside q t d =
    let test : Event → Bool = is_filed_inside (taken_time t) (curve_end (taken_time t) d None) in
    event_is_some (first_of (those test q)) ∙ ap is_some (sym (first_is test q)) ∙ any_find test q

either : (a b : Option Clash) → is_clash (option_or a b) ≡ (is_clash a || is_clash b)
unfolding is_clash
either None b = refl
either (Some clash) b = refl

-- of a curve: the test of its row
pub curve_clashes : (q : List Event) (t d : Float) → is_clash (option_or (covered_by q t) (holding q t d)) ≡ is_crossed q (taken_time t) d
unfolding is_crossed
curve_clashes q t d =
    either (covered_by q t) (holding q t d) ∙ rw (event_clashes q t, event_inside q t d)
