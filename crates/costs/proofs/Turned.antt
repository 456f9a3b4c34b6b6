-- An exponential is turned at most once, and is none then: those that a walk turned, with those that it left, are no more than waited before it. Assumes nothing.
use Rattle.std.proofs.Common.{Option, Some, None}
use Rattle.rules.specs.declared.Finished.{Finished}
use mathlib.Core.Path.{◌≡◌, refl}
use mathlib.Core.Bool.{Bool, true, false}
use mathlib.Core.List.{List, [], ◌∷◌}
use Prim.Native.Nat.{ℕ, ◌+◌, ◌≤◌}
use native.Mathlib.Omega.{arith}
use lib.Ieee as Ieee
use lib.Ieee.{Float}
use Rattle.rules.specs.declared.Event.{Event}
use Rattle.rules.specs.declared.BlockInfos.{BlockInfos}
use Rattle.rules.specs.Samples.{is_ratio, ratio_of}
use Rattle.rules.specs.Queue.{Waiting, hold_or, events_of, head_of}
use Rattle.rules.specs.Walk.{Walk, Walked, Turn, stop, on, turn, turn_of, next, ended, fill, with_values, with_intrinsic, with_last, with_turned, consumed, walked, counted, step_from, step_turn, step_time, span_turn, linear_turn, exponential_turn, target_left, target_run, target_turn, curve_turn, snaps, start_of}
use Rattle.rules.specs.Block.{rests_for, rendered, rendered_as, walk_from, values_before}
use Rattle.laws.proofs.Walks.{Turns, stops, goes, by_cond}
use Rattle.costs.proofs.Weights.{weigh, exponentials}

-- ---- a head

module _ (f : BlockInfos) (m : ℕ) where
  -- turned up to a head that stays, and that head if it is an exponential; and up to one that is consumed
  abbrev Stays : Walk → Waiting → Type 0
  Stays w y = w.turned + exponentials y.event ≤ m

  abbrev Goes : Walk → Type 0
  Goes w = w.turned ≤ m

  step_turns : (w : Walk) (v t : Float) → w.turned ≤ m → Turns Stays Goes (step_turn f w v t)
  unfolding step_turn step_from fill with_values consumed exponentials
  step_turns w v t h = by_cond (Ieee.lt f.next (step_time f t)) (stops (omega arith)) (goes h)

  module _ (x : Waiting) where
    span_turns : (w : Walk) (t v : Float) (e : Option Float) (sample : Float → Float) → Stays w x → Turns Stays Goes (span_turn f w x t v e sample)
    unfolding span_turn fill with_values with_intrinsic consumed
    span_turns w t v e sample h = by_cond (Ieee.le f.next (hold_or e t)) (stops h) (goes (omega arith))

    left_turns : (w : Walk) (target v : Float) → Stays w x → Turns Stays Goes (target_left f w x target v)
    unfolding target_left with_values with_intrinsic exponentials
    left_turns w target v h = by_cond (snaps target v) (stops (omega arith)) (stops h)

    run_turns : (w : Walk) (target : Float) (sample : Float → Float) (e : Option Float) → Stays w x → Turns Stays Goes (target_run f w x target sample e)
    unfolding target_run fill with_values consumed
    run_turns w target sample None h = left_turns _ target _ h
    run_turns w target sample (Some end) h = let less : w.turned ≤ m = omega arith in goes less

    turn_of_turns : (n : Option Event) (e : Event) → x.event ≡ e → (w : Walk) → Stays w x → Turns Stays Goes (turn_of f w x n e)
    unfolding turn_of linear_turn exponential_turn target_turn curve_turn counted with_last with_turned exponentials
    turn_of_turns n (Event.Step v t) is w h = step_turns w v t (omega arith)
    turn_of_turns n (Event.Linear v t e) is w h = span_turns _ t v e _ h
    turn_of_turns n (Event.Exponential v t e) is w h =
        let one : w.turned + 1 ≤ m = rw is at h in
        by_cond (is_ratio (ratio_of (start_of f w) v)) (span_turns _ t v e _ h) (step_turns _ v (hold_or e t) (omega arith))
    turn_of_turns n (Event.Target v t c e) is w h = by_cond (Ieee.lt f.next t) (stops h) (run_turns _ v _ _ h)
    turn_of_turns n (Event.Curve s d k e) is w h = by_cond (Ieee.lt f.next s) (stops h) (span_turns w _ _ e _ h)

    turn_turns : (n : Option Event) (w : Walk) → Stays w x → Turns Stays Goes (turn f w x n)
    unfolding turn counted
    turn_turns n w h = turn_of_turns n x.event refl (counted w) h

-- ---- a walk

module _ (f : BlockInfos) where
  -- turned by it, and left by it, no more than turned before and waiting
  abbrev Turned : ℕ → Walked → Type 0
  Turned m done = done.walk.turned + weigh exponentials (events_of done.queue) ≤ m

  next_turns : (m : ℕ) (xs : List Waiting) (rest : Walk → Walked) → ((v : Walk) → Turned (v.turned + weigh exponentials (events_of xs)) (rest v)) → (t : Turn)
      → Turns (Stays f m) (Goes f m) t → Turned (m + weigh exponentials (events_of xs)) (next f xs rest t)
  unfolding next ended fill with_values events_of weigh
  next_turns m xs rest h (stop w y) (stops g) = omega arith
  next_turns m xs rest h (on w) (goes g) = omega (arith, h w)

  walk_turns : (ws : List Waiting) (w : Walk) → Turned (w.turned + weigh exponentials (events_of ws)) (walked f w ws)
  unfolding walked ended fill with_values counted events_of weigh
  walk_turns [] w = omega arith
  walk_turns (x ∷ xs) w =
      let m : ℕ = w.turned + exponentials x.event in
      omega
      (arith, next_turns m xs (λ v. walked f v xs) (walk_turns xs) (turn f w x (head_of xs)) (turn_turns f m x (head_of xs) w (omega arith)))

-- ---- a block

rendered_turns_as : (b : Bool) (f : BlockInfos) (v : Float) (l : Option Finished) (ws : List Waiting) → Turned f (weigh exponentials (events_of ws)) (rendered_as b f v l ws)
unfolding rendered_as
rendered_turns_as true f v l ws = omega arith
rendered_turns_as false f v l ws = omega (arith, walk_turns f ws (walk_from v l (values_before f.rate v) 0))

pub rendered_turns : (f : BlockInfos) (v : Float) (l : Option Finished) (ws : List Waiting)
    → (rendered f v l ws).walk.turned + weigh exponentials (events_of (rendered f v l ws).queue) ≤ weigh exponentials (events_of ws)
unfolding rendered
rendered_turns f v l ws = rendered_turns_as (rests_for f (head_of ws)) f v l ws
