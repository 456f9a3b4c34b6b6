-- An event's call that is answered, and not out of turn, puts it behind all others: the reader behind some events is then behind one more. Assumes nothing.
use Rattle.std.proofs.Common.{Option, Some, None, Result, Ok, Err}
use Rattle.rules.specs.declared.Refusal.{Refusal}
use mathlib.Core.Path.{◌≡◌, refl, sym, ap, ◌∙◌}
use mathlib.Core.Bool.{true, false, ◌||◌}
use mathlib.Core.List.{List, [], ◌∷◌, ◌++◌}
use lib.ListN.{length}
use lib.Ieee.{Float}
use Rattle.rules.specs.declared.Event.{Event}
use Rattle.rules.specs.Queue.{Waiting, alone, hold_or, filed_under, events_of, packed, attached, inserted, length_of, target_event}
use Rattle.rules.specs.Refusals.{lowest, value_rows, exponential_rows, target_rows, curve_rows, is_earlier}
use Rattle.rules.specs.Block.{Command, Param, with_queue, Called, called, scheduled_as, called_as}
use Rattle.laws.specs.Fits.{AllFit}
use Rattle.laws.specs.Sound.{is_number, are_clear}
use Rattle.laws.proofs.Tests.{never, neither}
use Rattle.laws.proofs.Order.{finite_number}
use Rattle.laws.proofs.Store.{packed_back, no_numbers}
use Rattle.laws.proofs.Rows.{value_answered, exponential_answered, target_answered, curve_answered}
use Rattle.card.specs.Card.{is_held, has_hold, time_of, is_minus_zero, has_no_constant, is_out_of_turn}
use Rattle.card.specs.Back.{FitEvent, command_of, last_time}
use Rattle.card.proofs.Arrives.{taken_is, inserted_last, arrived_last, packed-alone}

pub scheduled_verdict : (v : Result Unit Refusal) (p : Param) (store : List Float) (e : Event) → (scheduled_as v p store e).verdict ≡ v
unfolding scheduled_as
scheduled_verdict (Ok _) p store e = refl
scheduled_verdict (Err r) p store e = refl

pub called_verdict : (v : Result Unit Refusal) (p : Param) (store : List Float) (ws : List Waiting) (x : Float) → (called_as v p store ws x).verdict ≡ v
unfolding called_as
called_verdict (Ok _) p store ws x = refl
called_verdict (Err r) p store ws x = refl

-- 28 does not apply
pub record InTurn (before : Option Float) (c : Command) : Type 0 where
  pub order : is_earlier before (time_of c) ≡ false
  pub time : is_minus_zero (time_of c) ≡ false
  pub constant : has_no_constant c ≡ false

pub in_turn : (before : Option Float) (c : Command) → is_out_of_turn before c ≡ false → InTurn before c
unfolding is_out_of_turn
in_turn before c h =
    let a = neither (is_earlier before (time_of c)) (is_minus_zero (time_of c) || has_no_constant c) h in
    let b = neither (is_minus_zero (time_of c)) (has_no_constant c) a.1 in
    record { order = a.0; time = b.0; constant = b.1 }

-- ---- one event more

module _ (p : Param) (ws : List Waiting) (fit : AllFit ws) (clear : are_clear (events_of ws) ≡ true) where
  -- the parameter p for which these wait
  abbrev here : Param
  here = with_queue (events_of ws) p

  -- a call that leaves these and w
  pub record Adds (w : Waiting) (k : Called) : Type 0 where
    pub param : k.param ≡ with_queue (events_of (ws ++ (w ∷ []))) p
    pub store : k.store ≡ packed (ws ++ (w ∷ []))

  alone_adds : (e : Event) (v : Result Unit Refusal) → v ≡ Ok tt → is_number (filed_under e) ≡ true → is_earlier (last_time (events_of ws)) (filed_under e) ≡ false
      → Adds (alone e) (scheduled_as v here (packed ws) e)
  unfolding scheduled_as
  alone_adds e v a n o =
      rw a
      (record {
        param = ap (λ (q : List Event). with_queue q p) (arrived_last (alone e) ws n clear o);
        store = sym (packed-alone (alone e) ws refl);
      })

  curve_adds : (w : Waiting) (v : Result Unit Refusal) → v ≡ Ok tt → is_number (filed_under w.event) ≡ true → is_earlier (last_time (events_of ws)) (filed_under w.event) ≡ false
      → Adds w (called_as v here (packed ws) (inserted w (attached (events_of ws) (packed ws))) p.intrinsic)
  unfolding called_as
  curve_adds w v a n o =
      let last : inserted w (attached (events_of ws) (packed ws)) ≡ ws ++ (w ∷ []) = ap (inserted w) (packed_back ws fit) ∙ inserted_last w ws n clear o in
      rw a (record { param = ap (λ (ys : List Waiting). with_queue (events_of ys) p) last; store = ap packed last })

  no_numbers_alone : (e : Event) (xs : List Float) → length xs ≡ 0 → alone e ≡ record { event = e; numbers = xs }
  no_numbers_alone e xs h = ap (λ (ys : List Float). record { event = e; numbers = ys }) (sym (no_numbers xs h))

  pub adds : (e : Event) (xs : List Float) → is_held e ≡ false → FitEvent e → length xs ≡ length_of e
      → (called here (packed ws) (command_of e xs)).verdict ≡ Ok tt → InTurn (last_time (events_of ws)) (command_of e xs)
      → Adds (record { event = e; numbers = xs }) (called here (packed ws) (command_of e xs))
  unfolding called command_of is_held has_hold FitEvent time_of has_no_constant length_of filed_under hold_or target_event
  adds (Event.Step v t) xs free f n h o =
      let a : lowest (value_rows (events_of ws) v t) ≡ Ok _ = sym (scheduled_verdict _ _ _ _) ∙ h in
      rw (← no_numbers_alone (Event.Step v t) xs n, taken_is t f.1 o.time)
      (alone_adds (Event.Step v t) _ a (finite_number t (value_answered _ v t a).1.time) o.order)
  adds (Event.Linear v t (Some c)) xs free f n h o = never (sym free)
  adds (Event.Linear v t None) xs free f n h o =
      let a : lowest (value_rows (events_of ws) v t) ≡ Ok _ = sym (scheduled_verdict _ _ _ _) ∙ h in
      rw (← no_numbers_alone (Event.Linear v t None) xs n, taken_is t f.1 o.time)
      (alone_adds (Event.Linear v t None) _ a (finite_number t (value_answered _ v t a).1.time) o.order)
  adds (Event.Exponential v t (Some c)) xs free f n h o = never (sym free)
  adds (Event.Exponential v t None) xs free f n h o =
      let a : lowest (exponential_rows (events_of ws) v t) ≡ Ok _ = sym (scheduled_verdict _ _ _ _) ∙ h in
      rw (← no_numbers_alone (Event.Exponential v t None) xs n, taken_is t f.1 o.time)
      (alone_adds (Event.Exponential v t None) _ a (finite_number t (exponential_answered _ v t a).2.time) o.order)
  adds (Event.Target v t c (Some k)) xs free f n h o = never (sym free)
  adds (Event.Target v t c None) xs free f n h o =
      let a : lowest (target_rows (events_of ws) v t c) ≡ Ok _ = sym (scheduled_verdict _ _ _ _) ∙ h in
      rw (← no_numbers_alone (Event.Target v t c None) xs n, taken_is t f.1.0 o.time, o.constant)
      (alone_adds (Event.Target v t c None) _ a (finite_number t (target_answered _ v t c a).3.time) o.order)
  adds (Event.Curve s d m (Some k)) xs free f n h o = never (sym free)
  adds (Event.Curve s d m None) xs free f n h o =
      let a : lowest (curve_rows (events_of ws) (packed ws) s d xs) ≡ Ok _ = sym (called_verdict _ _ _ _ _) ∙ h in
      rw (taken_is s f.0 o.time, n)
      (curve_adds (record { event = Event.Curve s d m None; numbers = xs }) _ a (finite_number s (curve_answered _ _ s d xs a).scheduled.time) o.order)
