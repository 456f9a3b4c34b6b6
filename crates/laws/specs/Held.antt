-- 02, C-15: "When a hold moves a time, the queue is still in order, equal times as before."
use Rattle.std.specs.Prelude.{◌≡◌, true, List, [], ◌∷◌, Float}
use Rattle.std.specs.Float.Ieee as Ieee
use Rattle.rules.specs.declared.Event.{Event}
use Rattle.rules.specs.Queue.{filed_under, held_event}
use Rattle.laws.specs.Sound.{in_order}

-- What a hold at c leaves of a queue, in the order in which the events stood, so those of equal times as well: each as it was, or held where it stood, or moved to c
-- and then the last. Only what is later than c goes.
pub data AsBefore (c : Float) : List Event → List Event → Type 0 where
  none : AsBefore c [] []
  same : {e : Event} {p q : List Event} → AsBefore c p q → AsBefore c (e ∷ p) (e ∷ q)
  in_place : {e : Event} {p q : List Event} → filed_under (held_event c e) ≡ filed_under e → AsBefore c p q → AsBefore c (e ∷ p) (held_event c e ∷ q)
  moved : {e : Event} {p : List Event} → Ieee.lt c (filed_under e) ≡ true → filed_under (held_event c e) ≡ c → AsBefore c p [] → AsBefore c (e ∷ p) (held_event c e ∷ [])
  goes : {e : Event} {p q : List Event} → Ieee.lt c (filed_under e) ≡ true → AsBefore c p q → AsBefore c (e ∷ p) q

pub record StillInOrder (c : Float) (before after : List Event) : Type 0 where
  pub ordered : in_order after ≡ true
  pub equal : AsBefore c before after
