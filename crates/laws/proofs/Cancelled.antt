-- What a cancel leaves is the first of the waiting events, and no curve whose span has the cancel time, both ends included (02, C-12). Assumes nothing.
use Rattle.std.proofs.Common.{Result, Ok, Err}
use Rattle.rules.specs.declared.Refusal.{Refusal}
use mathlib.Core.Path.{◌≡◌, refl, sym, ap, ◌∙◌}
use mathlib.Core.Bool.{Bool, true, false, cond, not, ◌&&◌}
use mathlib.Core.List.{List, [], ◌∷◌}
use lib.ListN.{take}
use lib.Ieee as Ieee
use lib.Ieee.{Float}
use Rattle.rules.specs.declared.Event.{Event}
use Rattle.rules.specs.Numbers.{taken_time}
use Rattle.rules.specs.Queue.{Waiting, filed_under, curve_end, any, events_of, packed, attached, those, lasts_to, goes_at, cancelled, value_after_cancel}
use Rattle.rules.specs.Refusals.{lowest, cancel_rows}
use Rattle.rules.specs.Block.{Param, left_with, Called, called_as, cancel, called}
use Rattle.laws.specs.Sound.{in_order, Sound}
use Rattle.laws.specs.Search.{first_going}
use Rattle.laws.specs.Spans.{spans}
use Rattle.laws.proofs.Tests.{neither}
use Rattle.laws.proofs.Events.{events_attached, events_take, events_cancelled}
use Rattle.laws.proofs.Ordered.{cancelled_is}

pub cancel_verdict : (p : Param) (store : List Float) (c : Float) → (called p store (cancel c)).verdict ≡ lowest (cancel_rows store c)
unfolding called
cancel_verdict p store c = go _ _ _
  where
    go : (v : Result Unit Refusal) (ws : List Waiting) (i : Float) → (called_as v p store ws i).verdict ≡ v
    go (Ok _) ws i = unfold called_as in refl
    go (Err r) ws i = unfold called_as in refl

-- what an answered cancel gives where these wait, at a time as it is taken
abbrev pub cancelled_at : Param → List Waiting → Float → Called
cancelled_at p ws c =
    record {
      verdict = Ok tt;
      param = left_with (events_of (cancelled c ws)) (value_after_cancel c p.last_end ws p.last p.intrinsic) p;
      store = packed (cancelled c ws);
    }

pub cancel_leaves : (p : Param) (store : List Float) (c : Float) → (called p store (cancel c)).verdict ≡ Ok tt
    → called p store (cancel c) ≡ cancelled_at p (attached p.queue store) (taken_time c)
unfolding called called_as
cancel_leaves p store c answered = rw (sym (cancel_verdict p store c) ∙ answered)

queue_left : (p : Param) (store : List Float) (c : Float) → (called p store (cancel c)).verdict ≡ Ok tt
    → (called p store (cancel c)).param.queue ≡ events_of (cancelled (taken_time c) (attached p.queue store))
queue_left p store c answered = ap (λ (r : Called). r.param.queue) (cancel_leaves p store c answered)

-- those ahead of the first that goes
pub a_cancel_leaves_the_first : (p : Param) (store : List Float) (c : Float) → Sound p → (called p store (cancel c)).verdict ≡ Ok tt
    → (called p store (cancel c)).param.queue ≡ take (first_going (taken_time c) p.queue) p.queue
a_cancel_leaves_the_first p store c s answered =
    rw (queue_left p store c answered, cancelled_is (taken_time c) (attached p.queue store) ordered, events_take, events_attached p.queue store)
  where
    ordered : in_order (events_of (attached p.queue store)) ≡ true
    ordered = rw (events_attached p.queue store) s.waiting.ordered

-- ---- "An operator cancelled at 3 s while a curve ran from 1 s to 6 s, and the voltage went on moving."

-- a curve that has c in its span goes
spans_goes : (c : Float) (e : Event) → goes_at c e ≡ false → spans c e ≡ false
unfolding goes_at lasts_to filed_under spans
spans_goes c (Event.Step v t) h = refl
spans_goes c (Event.Linear v t k) h = refl
spans_goes c (Event.Exponential v t k) h = refl
spans_goes c (Event.Target v t k m) h = refl
spans_goes c (Event.Curve s d n k) h = rw (neither (not (Ieee.lt s c)) (Ieee.le c (curve_end s d k)) h).1 (none (Ieee.le s c))
  where
    none : (b : Bool) → (b && false) ≡ false
    none true = refl
    none false = refl

none_spans : (c : Float) (q : List Event) → any (spans c) (those (λ e. not (goes_at c e)) q) ≡ false
unfolding those any
none_spans c [] = refl
none_spans c (e ∷ q) = go (goes_at c e) refl (none_spans c q)
  where
    go : (b : Bool) → goes_at c e ≡ b → any (spans c) (those (λ e. not (goes_at c e)) q) ≡ false → any (spans c) (cond (not b) (e ∷ those (λ e. not (goes_at c e)) q) (those (λ e. not (goes_at c e)) q)) ≡ false
    go true h k = k
    go false h k = rw (spans_goes c e h, k)

pub after_a_cancel_no_curve_spans_it : (p : Param) (store : List Float) (c : Float) → (called p store (cancel c)).verdict ≡ Ok tt
    → any (spans (taken_time c)) (called p store (cancel c)).param.queue ≡ false
after_a_cancel_no_curve_spans_it p store c answered =
    rw (queue_left p store c answered, events_cancelled (taken_time c) (attached p.queue store)) (none_spans (taken_time c) _)
