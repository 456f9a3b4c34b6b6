-- The walk as a loop over heads takes it: one head, and the rest. Assumes nothing.
use Rattle.std.proofs.Common.{Option}
use mathlib.Core.Path.{◌≡◌, refl}
use mathlib.Core.Bool.{false}
use mathlib.Core.List.{List, [], ◌∷◌}
use lib.Ieee.{Float}
use Rattle.rules.specs.declared.Event.{Event}
use Rattle.rules.specs.declared.BlockInfos.{BlockInfos}
use Rattle.rules.specs.Samples.{is_ratio, ratio_of}
use Rattle.rules.specs.Queue.{Waiting, alone, head_of, hold_or}
use Rattle.rules.specs.Walk.{Walk, stop, on, turn, turn_of, next, ended, walked, counted, with_last, with_turned, exponential_turn, start_of}

module _ (f : BlockInfos) (w : Walk) where
  pub walk_empty : walked f w [] ≡ ended f (counted w) []
  unfolding walked
  walk_empty = refl

  module _ (x : Waiting) (xs : List Waiting) where
    pub walk_stops : (v : Walk) (y : Waiting) → turn f w x (head_of xs) ≡ stop v y → walked f w (x ∷ xs) ≡ ended f v (y ∷ xs)
    unfolding walked next
    walk_stops v y e = rw e

    pub walk_goes_on : (v : Walk) → turn f w x (head_of xs) ≡ on v → walked f w (x ∷ xs) ≡ walked f v xs
    unfolding walked next
    walk_goes_on v e = rw e

  -- an exponential whose ratio is none: the head is replaced by the step, and walked again
  pub exponential_turns : (numbers : List Float) (v t : Float) (h : Option Float) (xs : List Waiting) → is_ratio (ratio_of (start_of f (counted w)) v) ≡ false
      → walked f w (record { event = Event.Exponential v t h; numbers = numbers } ∷ xs)
      ≡ walked f (with_turned (with_last (start_of f (counted w)) (counted w))) (alone (Event.Step v (hold_or h t)) ∷ xs)
  unfolding walked turn turn_of exponential_turn
  exponential_turns numbers v t h xs e = rw e
