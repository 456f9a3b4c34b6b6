-- A turn on an event's field that is answered and in turn, and on a range that is; a run of such fields, as it was written. Assumes nothing.
use Rattle.std.proofs.Common.{Some, None, Ok}
use mathlib.Core.Path.{◌≡◌, refl, sym, ap, ◌∙◌}
use mathlib.Core.Bool.{true, false}
use mathlib.Core.List.{List, [], ◌∷◌, ◌++◌, append_assoc, append-nil}
use Prim.Native.Nat.{ℕ, ◌+◌}
use lib.ListN.{length, length-append}
use lib.Ieee.{Float}
use Rattle.rules.specs.declared.Bounds.{Bounds}
use Rattle.rules.specs.declared.AutomationRate.{AutomationRate}
use Rattle.rules.specs.declared.Event.{Event}
use Rattle.rules.specs.Queue.{Waiting, hold_or, filed_under, events_of, length_of}
use Rattle.rules.specs.Block.{fresh, edition_of, called}
use Rattle.laws.specs.Fits.{AllFit}
use Rattle.laws.specs.Sound.{are_clear}
use Rattle.laws.proofs.Tests.{never}
use Rattle.laws.proofs.Events.{events_append}
use Rattle.card.specs.Card.{field_length, is_held, has_hold, time_of, is_out_of_turn, taken_as, event_turn, event_field, fields_of, range_field, file_of}
use Rattle.card.specs.Back.{FitEvent, command_of, last_time, behind}
use Rattle.card.proofs.Arrives.{last_time_lem}
use Rattle.card.proofs.Kept.{adds, in_turn}

-- ---- a file and one field more

pub fields-append : (ws vs : List Waiting) → fields_of (ws ++ vs) ≡ fields_of ws ++ fields_of vs
unfolding fields_of
fields-append [] vs = refl
fields-append (w ∷ ws) vs = rw (fields-append ws vs) (sym (append_assoc (event_field w.event w.numbers) (fields_of ws) (fields_of vs)))

pub file_append : (b : Bounds) (ws vs : List Waiting) → file_of b (ws ++ vs) ≡ file_of b ws ++ fields_of vs
unfolding file_of
file_append b ws vs = rw (fields-append ws vs) (sym (append_assoc (range_field b) (fields_of ws) (fields_of vs)))

-- the time of an event that is not held is the one that it is filed under
command_time : (e : Event) (xs : List Float) → is_held e ≡ false → time_of (command_of e xs) ≡ filed_under e
unfolding time_of command_of filed_under hold_or is_held has_hold
command_time (Event.Step v t) xs h = refl
command_time (Event.Linear v t None) xs h = refl
command_time (Event.Linear v t (Some c)) xs h = never (sym h)
command_time (Event.Exponential v t None) xs h = refl
command_time (Event.Exponential v t (Some c)) xs h = never (sym h)
command_time (Event.Target v t c h) xs f = refl
command_time (Event.Curve s d n h) xs f = refl

-- ---- one turn

module _ (rate : AutomationRate) (n : ℕ) (b : Bounds) (ws : List Waiting) (fit : AllFit ws) (clear : are_clear (events_of ws) ≡ true) where
  pub turn_adds : (bs : List ℕ) (e : Event) (xs : List Float) → is_held e ≡ false → FitEvent e → length xs ≡ length_of e → field_length bs ≡ length (event_field e xs)
      → (called (behind rate n b ws).param (behind rate n b ws).store (command_of e xs)).verdict ≡ Ok tt
      → is_out_of_turn (last_time (events_of ws)) (command_of e xs) ≡ false
      → event_turn (command_of e xs) bs (behind rate n b ws) ≡ behind rate n b (ws ++ (record { event = e; numbers = xs } ∷ []))
  unfolding event_turn taken_as fields_of events_of
  turn_adds bs e xs free f long size a o =
      let w : Waiting = record { event = e; numbers = xs } in
      let k = adds (fresh b rate (edition_of n)) ws fit clear e xs free f long a (in_turn (last_time (events_of ws)) (command_of e xs) o) in
      let more : length (file_of b (ws ++ (w ∷ []))) ≡ length (file_of b ws) + field_length bs =
      ap length (file_append b ws (w ∷ [])) ∙ length-append (file_of b ws) (event_field e xs ++ []) ∙ ap (λ (k : ℕ). length (file_of b ws) + k) (ap length (append-nil (event_field e xs)) ∙ sym size) in
      let last : last_time (events_of (ws ++ (w ∷ []))) ≡ Some (time_of (command_of e xs)) =
      ap last_time (events_append ws (w ∷ [])) ∙ last_time_lem (events_of ws) e ∙ ap Some (sym (command_time e xs free)) in
      rw (o, a, k.param, k.store, last, more) refl
