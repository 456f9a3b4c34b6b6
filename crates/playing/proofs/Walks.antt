-- A walk over s ++ a and over s ++ b: the same, while two of s still wait. Assumes nothing.
use Rattle.std.proofs.Common.{Option, Some}
use Rattle.rules.specs.declared.Finished.{Finished}
use mathlib.Core.Path.{◌≡◌, refl}
use mathlib.Core.Bool.{Bool, true, false}
use mathlib.Core.List.{List, [], ◌∷◌, ◌++◌}
use Prim.Native.Nat.{suc, ◌+◌, ◌≤◌}
use native.Mathlib.Omega.{arith}
use lib.ListN.{length}
use lib.Ieee.{Float}
use Rattle.rules.specs.declared.BlockInfos.{BlockInfos}
use Rattle.rules.specs.Queue.{Waiting, head_of}
use Rattle.rules.specs.Walk.{Walk, Walked, Turn, stop, on, turn, next, ended, walked}
use Rattle.rules.specs.Block.{rests_for, rendered, rendered_as, walk_from, values_before}
use Rattle.laws.proofs.Walks.{walk_length, rendered-length}
use Rattle.playing.specs.Demand.{enough}

-- ---- two outcomes that differ only in what waits behind the shared events

pub record Alike (a b : List Waiting) (l r : Walked) : Type 0 where
  pub shared : List Waiting
  pub first : l.queue ≡ shared ++ a
  pub second : r.queue ≡ shared ++ b
  pub same : l.walk ≡ r.walk

module _ (a b : List Waiting) (f : BlockInfos) where
  next_alike : (s : List Waiting) (k l : Walk → Walked) → ((w : Walk) → length a + enough ≤ length (k w).queue → Alike a b (k w) (l w)) → (t : Turn)
      → length a + enough ≤ length (next f (s ++ a) k t).queue → Alike a b (next f (s ++ a) k t) (next f (s ++ b) l t)
  unfolding next ended
  next_alike s k l h (stop w x) two = record { shared = x ∷ s; first = refl; second = refl; same = refl }
  next_alike s k l h (on w) two = h w two

  walk_alike : (s : List Waiting) (w : Walk) → length a + enough ≤ length (walked f w (s ++ a)).queue → Alike a b (walked f w (s ++ a)) (walked f w (s ++ b))
  unfolding walked head_of
  walk_alike [] w two = let l : length (walked f w a).queue ≤ length a = walk_length f a w in absurd (omega arith)
  walk_alike (x ∷ []) w two =
      let l : length (walked f w (x ∷ a)).queue ≤ suc (length a) = walk_length f (x ∷ a) w in absurd (omega arith)
  walk_alike (x ∷ y ∷ s) w two =
      next_alike
      (y ∷ s)
      (λ v. walked f v (y ∷ s ++ a))
      (λ v. walked f v (y ∷ s ++ b))
      (walk_alike (y ∷ s))
      (turn f w x (Some y.event))
      two

  module _ (v : Float) (l : Option Finished) where
    rendered_alike_as : (r : Bool) (s : List Waiting) → length a + enough ≤ length (rendered_as r f v l (s ++ a)).queue
        → Alike a b (rendered_as r f v l (s ++ a)) (rendered_as r f v l (s ++ b))
    unfolding rendered_as
    rendered_alike_as true s two = record { shared = s; first = refl; second = refl; same = refl }
    rendered_alike_as false s two = walk_alike s (walk_from v l (values_before f.rate v) 0) two

    -- and the head is the same
    pub rendered_alike : (s : List Waiting) → length a + enough ≤ length (rendered f v l (s ++ a)).queue
        → Alike a b (rendered f v l (s ++ a)) (rendered f v l (s ++ b)) × (head_of (s ++ a) ≡ head_of (s ++ b))
    unfolding rendered head_of
    rendered_alike [] two =
        let n : length (rendered f v l a).queue ≤ length a = rendered-length f v l a in absurd (omega arith)
    rendered_alike (x ∷ s) two = (rendered_alike_as (rests_for f (Some x.event)) (x ∷ s) two, refl)
