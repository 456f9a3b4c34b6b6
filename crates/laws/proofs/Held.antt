-- What a hold leaves is in order, equal times as before (02, C-15); inside a curve it holds that curve (C-14); from the head it takes no ramp (C-12). Assumes nothing.
use Rattle.std.proofs.Common.{Option, Some, None, Result, Ok, Err}
use Rattle.rules.specs.declared.Refusal.{Refusal}
use mathlib.Core.Path.{◌≡◌, refl, ap, ◌∙◌}
use mathlib.Core.Bool.{Bool, true, false, cond, ◌&&◌, ◌||◌}
use mathlib.Core.List.{List, [], ◌∷◌, ◌++◌}
use Prim.Native.Nat.{ℕ, suc, ◌+◌, ◌<◌}
use native.Mathlib.Omega.{arith}
use lib.ListN.{length, take, drop, get_or, length-append}
use lib.Seq.{take-append_seam, drop-append_seam, get_or-append_seam, take-suc}
use lib.Ieee as Ieee
use lib.Ieee.{Float, binary64}
use Rattle.rules.specs.declared.Event.{Event}
use Rattle.rules.specs.Numbers.{taken_time}
use Rattle.rules.specs.Queue.{Waiting, hold_or, filed_under, is_ramp, curve_end, is_inside, covers, any, any_covers, events_of, attached, those, held_event, held_at, runs_at, held_if_running, last_held, is_later, is_not_later, holds_ramp, held_by, held}
use Rattle.rules.specs.Block.{Param, called_as, hold, called}
use Rattle.laws.specs.Sound.{is_held_by, is_clear, are_clear, reach_of, goes_before, in_order, Sound}
use Rattle.laws.specs.Search.{place_of, is_later_than, first_later}
use Rattle.laws.specs.Held.{AsBefore, none, same, in_place, moved, goes, StillInOrder}
use Rattle.laws.proofs.Tests.{never, both}
use Rattle.laws.proofs.Order.{le_le, le_not_lt, lt_le_lt}
use Rattle.laws.proofs.Clear.{all-parts, all_drop, curve_parts}
use Rattle.laws.proofs.Reach.{covered}
use Rattle.laws.proofs.Events.{events_length, events_take, events_attached, runs_no_ramp, held_filed, held_by_ramp, held_ramp_filed}
use Rattle.laws.proofs.Ordered.{AllFrom, order_parts, order_from, AllPass, those_pass, early_late, held_is, events_last_held}
use Rattle.laws.proofs.Kept.{called_sound}

module _ (c : Float) where
  all_same : (q : List Event) → AsBefore c q q
  all_same [] = none
  all_same (e ∷ q) = same (all_same q)

  all_go : (ws : List Waiting) → AllPass (is_later c) ws → AsBefore c (events_of ws) []
  unfolding events_of is_later
  all_go [] h = none
  all_go (w ∷ ws) h = goes h.0 (all_go ws h.1)

  -- the events at or before c, and those later
  module _ (late : List Waiting) (later : AllPass (is_later c) late) where
    last_in_place : (early : List Waiting) → AsBefore c (events_of (early ++ late)) (events_of (last_held c early))
    unfolding events_of last_held held_if_running
    last_in_place [] = all_go late later
    last_in_place (w ∷ []) = go (runs_at c w.event) refl
      where
        go : (b : Bool) → runs_at c w.event ≡ b → AsBefore c (w.event ∷ events_of late) ((cond b (held_at c w) w).event ∷ [])
        go true r = unfold held_at in in_place (held_filed c w.event (runs_no_ramp c w.event r)) (all_go late later)
        go false r = same (all_go late later)
    last_in_place (w ∷ x ∷ early) = same (last_in_place (x ∷ early))

    ramp_moved : (x : Waiting) → is_ramp x.event ≡ true → Ieee.lt c (filed_under x.event) ≡ true → (early : List Waiting)
        → AsBefore c (events_of (early ++ (x ∷ late))) (events_of (early ++ (held_at c x ∷ [])))
    unfolding events_of held_at
    ramp_moved x r l [] = moved l (held_ramp_filed c x.event r l) (all_go late later)
    ramp_moved x r l (w ∷ early) = same (ramp_moved x r l early)

  held_by_as_before : (early late : List Waiting) → AllPass (is_later c) late → AsBefore c (events_of (early ++ late)) (events_of (held_by c early late))
  unfolding held_by is_later
  held_by_as_before early [] a = last_in_place [] a early
  held_by_as_before early (x ∷ late) a = go (holds_ramp c early x) refl
    where
      go : (b : Bool) → holds_ramp c early x ≡ b
          → AsBefore c (events_of (early ++ (x ∷ late))) (events_of (cond b (early ++ (held_at c x ∷ [])) (last_held c early)))
      go true r = ramp_moved late a.1 x (held_by_ramp c early x r) a.0 early
      go false r = last_in_place (x ∷ late) a early

  held_as_before : (ws : List Waiting) → in_order (events_of ws) ≡ true → AsBefore c (events_of ws) (events_of (held c ws))
  unfolding held
  held_as_before ws o =
      rw (early_late c ws o) at (held_by_as_before (those (is_not_later c) ws) (those (is_later c) ws) (those_pass (is_later c) ws))

pub when_a_hold_moves_a_time : (p : Param) (store : List Float) (c : Float) → Sound p → StillInOrder (taken_time c) p.queue (called p store (hold c)).param.queue
when_a_hold_moves_a_time p store c s = record { ordered = (called_sound p store s (hold c)).waiting.ordered; equal = unfold called in go _ _ }
  where
    waits_as_before : AsBefore (taken_time c) p.queue (events_of (held (taken_time c) (attached p.queue store)))
    waits_as_before =
        rw (events_attached p.queue store) at (held_as_before (taken_time c) (attached p.queue store) (rw (events_attached p.queue store) s.waiting.ordered))

    go : (v : Result Unit Refusal) (i : Float) → AsBefore (taken_time c) p.queue (called_as v p store (held (taken_time c) (attached p.queue store)) i).param.queue
    go (Ok _) i = unfold called_as in waits_as_before
    go (Err r) i = unfold called_as in all_same (taken_time c) p.queue

-- ---- inside a curve (02, C-14)

module _ (c : Float) where
  from_at : (t : Float) (before : List Event) (e : Event) (behind : List Event) → AllFrom t (before ++ (e ∷ behind)) → Ieee.le t (filed_under e) ≡ true
  from_at t [] e behind f = f.0
  from_at t (d ∷ before) e behind f = from_at t before e behind f.1

  -- what reaches beyond c is the last event at or before it
  later_behind : (before : List Event) (e : Event) (behind : List Event) → in_order (before ++ (e ∷ behind)) ≡ true → Ieee.le (filed_under e) c ≡ true
      → Ieee.lt c (reach_of e) ≡ true → first_later c (before ++ (e ∷ behind)) ≡ suc (length before)
  unfolding first_later place_of is_later_than
  later_behind [] e [] o l r = rw (le_not_lt (filed_under e) c l)
  later_behind [] e (d ∷ behind) o l r =
      let next : Ieee.lt c (filed_under d) ≡ true = lt_le_lt c (reach_of e) (filed_under d) r (unfold goes_before in (order_parts e (d ∷ behind) o).0) in
      rw (le_not_lt (filed_under e) c l, next)
  later_behind (d ∷ before) e behind o l r =
      let up : Ieee.le (filed_under d) (filed_under e) ≡ true = from_at (filed_under d) before e behind (order_from d (before ++ (e ∷ behind)) o) in
      rw (le_not_lt (filed_under d) c (le_le (filed_under d) (filed_under e) c up l), later_behind before e behind (order_parts d (before ++ (e ∷ behind)) o).1 l r)

  covers_last : (before : List Event) (e : Event) → covers c e ≡ true → any_covers c (before ++ (e ∷ [])) ≡ true
  unfolding any_covers any
  covers_last [] e h = rw h
  covers_last (d ∷ before) e h = rw (covers_last before e h) (or_true (covers c d))
    where
      or_true : (b : Bool) → (b || true) ≡ true
      or_true true = refl
      or_true false = refl

  held_covered : (early late : List Waiting) → any_covers c (events_of early) ≡ true → held_by c early late ≡ last_held c early
  unfolding held_by holds_ramp
  held_covered early [] h = refl
  held_covered early (x ∷ late) h = rw h (go (is_ramp x.event))
    where
      go : (b : Bool) → cond (b && false) (early ++ (held_at c x ∷ [])) (last_held c early) ≡ last_held c early
      go true = refl
      go false = refl

  -- a curve with c inside has not ended
  covers_runs : (e : Event) → is_clear e ≡ true → covers c e ≡ true → runs_at c e ≡ true
  unfolding covers runs_at is_inside curve_end
  covers_runs (Event.Step v t) k h = never h
  covers_runs (Event.Linear v t m) k h = never h
  covers_runs (Event.Exponential v t m) k h = never h
  covers_runs (Event.Target v t m n) k h = never h
  covers_runs (Event.Curve s d n m) k h = go m (curve_parts s d n m k).by (both (Ieee.le s c) (Ieee.lt c (hold_or m (Ieee.add binary64 s d))) h).1
    where
      go : (m : Option Float) → is_held_by (Ieee.add binary64 s d) m ≡ true → Ieee.lt c (hold_or m (Ieee.add binary64 s d)) ≡ true → Ieee.lt c (Ieee.add binary64 s d) ≡ true
      go None b l = unfold hold_or in l
      go (Some x) b l = unfold hold_or is_held_by in lt_le_lt c x (Ieee.add binary64 s d) l b

  module _ (ws : List Waiting) (before : List Event) (e : Event) (behind : List Event) (is : events_of ws ≡ before ++ (e ∷ behind))
      (o : in_order (events_of ws) ≡ true) (k : is_clear e ≡ true) (h : covers c e ≡ true) where
    abbrev n : ℕ
    n = length before

    some : n < length ws
    some = let l : length (events_of ws) ≡ length before + suc (length behind) = ap length is ∙ length-append before (e ∷ behind) in omega (arith, events_length ws, l)

    first_is : first_later c (events_of ws) ≡ suc n
    first_is = let r = covered c e h in rw is (later_behind before e behind (rw is at o) r.0 r.1)

    ahead_is : take n (events_of ws) ≡ before
    ahead_is = rw is (take-append_seam before (e ∷ behind))

    it_is : get_or (events_of ws) n e ≡ e
    it_is = rw is (get_or-append_seam before e behind e)

    up_to_it : events_of (take (suc n) ws) ≡ before ++ (e ∷ [])
    up_to_it = events_take (suc n) ws ∙ take-suc (events_of ws) n e (rw (events_length ws) some) ∙ rw (ahead_is, it_is)

    holds_it : events_of (held c ws) ≡ before ++ (held_event c e ∷ [])
    holds_it =
        rw (held_is c ws o, first_is, held_covered (take (suc n) ws) (drop (suc n) ws) (rw up_to_it (covers_last before e h)), events_last_held c ws n e some, ahead_is, it_is, covers_runs e k h)

-- "A cancel-and-hold at or after a waiting curve's start and before its end holds that curve, as if no ramp followed": what is behind the curve goes.
pub inside_a_curve_it_is_held : (p : Param) (store : List Float) (c : Float) → Sound p → (called p store (hold c)).verdict ≡ Ok tt
    → (before : List Event) (e : Event) (behind : List Event) → p.queue ≡ before ++ (e ∷ behind) → covers (taken_time c) e ≡ true
    → (called p store (hold c)).param.queue ≡ before ++ (held_event (taken_time c) e ∷ [])
unfolding called
inside_a_curve_it_is_held p store c s answered before e behind split h = go _ _ answered
  where
    ws : List Waiting
    ws = attached p.queue store

    clear : is_clear e ≡ true
    clear =
        let all : are_clear (before ++ (e ∷ behind)) ≡ true = rw split at s.waiting.clear in
        (all-parts is_clear e behind (rw (drop-append_seam before (e ∷ behind)) at (all_drop is_clear (length before) (before ++ (e ∷ behind)) all))).0

    stays : events_of (held (taken_time c) ws) ≡ before ++ (held_event (taken_time c) e ∷ [])
    stays =
        holds_it (taken_time c) ws before e behind (events_attached p.queue store ∙ split) (rw (events_attached p.queue store) s.waiting.ordered) clear h

    go : (v : Result Unit Refusal) (i : Float) → (called_as v p store (held (taken_time c) ws) i).verdict ≡ Ok tt
        → (called_as v p store (held (taken_time c) ws) i).param.queue ≡ before ++ (held_event (taken_time c) e ∷ [])
    go (Ok _) i a = unfold called_as in stays
    go (Err r) i a = unfold called_as in let z : ◌≡◌ {A = ℕ} 0 1 = cc in absurd (omega arith)

-- ---- from the head a hold takes no ramp: it holds it, and all else goes. So of a head that goes it asks for a curve alone (02, C-12).

pub head_ramp_held : (c : Float) (w : Waiting) (ws : List Waiting) → in_order (events_of (w ∷ ws)) ≡ true → is_ramp w.event ≡ true → is_later c w ≡ true
    → held c (w ∷ ws) ≡ held_at c w ∷ []
unfolding is_later is_later_than first_later place_of events_of held_by holds_ramp any_covers any
head_ramp_held c w ws o r l = held_is c (w ∷ ws) o ∙ rw (l, r)
