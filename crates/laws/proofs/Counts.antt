-- A walk's counts: its steps are the events finished, those turned and one; what is finished no longer waits. So a block is at most 129 steps. Assumes nothing.
use Rattle.std.proofs.Common.{Option}
use Rattle.rules.specs.declared.Finished.{Finished}
use mathlib.Core.Path.{◌≡◌, refl, ap}
use mathlib.Core.Bool.{Bool, true, false}
use mathlib.Core.List.{List, [], ◌∷◌}
use Prim.Native.Nat.{ℕ, suc, ◌+◌, ◌*◌, ◌≤◌}
use native.Mathlib.Omega.{arith}
use lib.ListN.{length}
use lib.Ieee.{Float}
use Rattle.rules.specs.declared.BlockInfos.{BlockInfos}
use Rattle.rules.specs.Queue.{Waiting, head_of}
use Rattle.rules.specs.Walk.{Walk, Walked, Turn, stop, on, turn, next, ended, fill, with_values, with_intrinsic, with_last, with_turned, consumed, walked, counted}
use Rattle.rules.specs.Block.{rests_for, rendered, rendered_as, walk_from, values_before}
use Rattle.laws.proofs.Walks.{Any, any-timed, all_any, head_timed, Turns, stops, goes, Stops, Carries, turn_carries, walk_carries}

module _ (f : BlockInfos) where
  -- ---- steps

  -- before a head, and with it taken
  abbrev Before : Walk → Type 0
  Before w = w.steps ≡ w.finished + w.turned

  abbrev During : Walk → Type 0
  During w = w.steps ≡ suc (w.finished + w.turned)

  steps_carry : Carries f Any Before During During Before
  unfolding counted with_last with_turned fill with_values with_intrinsic consumed
  steps_carry =
      record {
        takes = λ w h. ap suc h;
        last = λ w h. h;
        stays = λ w h. h;
        turns = λ w h. omega arith;
        fills = λ n sample w l h. h;
        flushes = λ target w h. h;
        intrinsic = λ v w h. h;
        consumes = λ t v w m h. omega arith;
      }

  pub walk_steps : (ws : List Waiting) (w : Walk) → w.steps ≡ w.finished + w.turned
      → (walked f w ws).walk.steps ≡ suc ((walked f w ws).walk.finished + (walked f w ws).walk.turned)
  unfolding fill with_values
  walk_steps ws w h = (walk_carries f Any Before During During During tt steps_carry (λ w h. h) ws (all_any ws) w h).0

  -- ---- one head: it is finished or stays, and is turned at most once

  module _ (k m : ℕ) where
    abbrev Taken : Walk → Type 0
    Taken w = (w.finished ≡ k) × (w.turned ≤ m)

    abbrev Stayed : Walk → Type 0
    Stayed w = (w.finished ≡ k) × (w.turned ≤ suc m)

    abbrev Gone : Walk → Type 0
    Gone w = (w.finished ≡ suc k) × (w.turned ≤ suc m)

    counts_carry : Carries f Any Taken Taken Stayed Gone
    unfolding counted with_last with_turned fill with_values with_intrinsic consumed
    counts_carry =
        record {
          takes = λ w h. h;
          last = λ w h. h;
          stays = λ w h. omega arith;
          turns = λ w h. omega arith;
          fills = λ n sample w l h. h;
          flushes = λ target w h. h;
          intrinsic = λ v w h. h;
          consumes = λ t v w m h. omega arith;
        }

  -- what is finished no longer waits, and each event is turned at most once
  abbrev Shrinks : ℕ → Walk → Walked → Type 0
  Shrinks n w done = (done.walk.finished + length done.queue ≡ w.finished + n) × (done.walk.turned ≤ w.turned + n)

  next_shrinks : (w : Walk) (x : Waiting) (xs : List Waiting) (rest : Walk → Walked) → ((v : Walk) → Shrinks (length xs) v (rest v)) → (t : Turn)
      → Turns (Stops f (Stayed w.finished w.turned) x (head_of xs)) (Gone w.finished w.turned) t
      → Shrinks (suc (length xs)) w (next f xs rest t)
  unfolding next ended fill with_values
  next_shrinks w x xs rest h (stop v y) (stops g) = (omega arith, omega arith)
  next_shrinks w x xs rest h (on v) (goes g) = let r : Shrinks (length xs) v (rest v) = h v in (omega arith, omega arith)

  walk_shrinks : (ws : List Waiting) (w : Walk) → Shrinks (length ws) w (walked f w ws)
  unfolding walked ended fill with_values counted
  walk_shrinks [] w = (omega arith, omega arith)
  walk_shrinks (x ∷ xs) w =
      next_shrinks w x xs (λ v. walked f v xs) (walk_shrinks xs) (turn f w x (head_of xs))
      (turn_carries f Any _ _ _ _ tt (counts_carry w.finished w.turned) x (head_of xs) w (any-timed x.event) (head_timed Any xs (all_any xs)) (refl, omega arith))

-- ---- a block

-- what a block's counts are
pub record Counted (n : ℕ) (done : Walked) : Type 0 where
  pub steps : done.walk.steps ≡ suc (done.walk.finished + done.walk.turned)
  pub finished : done.walk.finished + length done.queue ≡ n
  pub turned : done.walk.turned ≤ n

rendered_counts_as : (b : Bool) (f : BlockInfos) (v : Float) (l : Option Finished) (ws : List Waiting) → Counted (length ws) (rendered_as b f v l ws)
unfolding rendered_as
rendered_counts_as true f v l ws = record { steps = refl; finished = omega arith; turned = omega arith }
rendered_counts_as false f v l ws =
    let w : Walk = walk_from v l (values_before f.rate v) 0 in
    let s = walk_shrinks f ws w in
    record { steps = walk_steps f ws w refl; finished = omega arith; turned = omega arith }

pub rendered_counts : (f : BlockInfos) (v : Float) (l : Option Finished) (ws : List Waiting) → Counted (length ws) (rendered f v l ws)
unfolding rendered
rendered_counts f v l ws = rendered_counts_as (rests_for f (head_of ws)) f v l ws

pub rendered_steps : (f : BlockInfos) (v : Float) (l : Option Finished) (ws : List Waiting) → (rendered f v l ws).walk.steps ≤ suc (2 * length ws)
rendered_steps f v l ws = let c : Counted (length ws) (rendered f v l ws) = rendered_counts f v l ws in omega arith

-- ---- how much a head that is consumed adds to each count

module _ (f : BlockInfos) (a b c : ℕ) where
  -- so many steps, events finished and exponentials turned more than a, b and c at the most
  abbrev AtMost : ℕ → ℕ → ℕ → Walk → Type 0
  AtMost i j k w = (w.steps ≤ a + i) × (w.finished ≤ b + j) × (w.turned ≤ c + k)

  most_carry : Carries f Any (AtMost 0 0 0) (AtMost 1 0 0) (AtMost 2 0 1) (AtMost 2 1 1)
  unfolding counted with_last with_turned fill with_values with_intrinsic consumed
  most_carry =
      record {
        takes = λ w h. omega arith;
        last = λ w h. h;
        stays = λ w h. omega arith;
        turns = λ w h. omega arith;
        fills = λ n sample w l h. h;
        flushes = λ target w h. h;
        intrinsic = λ v w h. h;
        consumes = λ t v w m h. omega arith;
      }

gone_of : {S : Walk → Waiting → Type 0} {G : Walk → Type 0} {v : Walk} → Turns S G (on v) → G v
gone_of (goes g) = g

pub head_counts : (f : BlockInfos) (w v : Walk) (x : Waiting) (xs : List Waiting) → turn f w x (head_of xs) ≡ on v
    → (v.steps ≤ w.steps + 2) × (v.finished ≤ w.finished + 1) × (v.turned ≤ w.turned + 1)
head_counts f w v x xs e =
    gone_of
    (rw e at
    (turn_carries f Any _ _ _ _ tt (most_carry f w.steps w.finished w.turned) x (head_of xs) w (any-timed x.event) (head_timed Any xs (all_any xs)) (omega arith)))
