-- The places of a block: the end place as a search, fills, and that a block has as many samples as places. Assumes nothing.
use Rattle.std.proofs.Common.{Option}
use Rattle.rules.specs.declared.Finished.{Finished}
use mathlib.Core.Path.{◌≡◌, refl, ap, ◌∙◌}
use mathlib.Core.Bool.{Bool, true, false, cond}
use mathlib.Core.List.{List, [], ◌∷◌, ◌++◌}
use Prim.Native.Nat.{ℕ, zero, suc, ◌-◌, ◌≤◌, ◌<◌}
use native.Mathlib.Omega.{arith}
use lib.ListN.{length, replicate, length-append, length-replicate}
use lib.Ieee as Ieee
use lib.Ieee.{Float, binary64}
use Rattle.rules.specs.declared.AutomationRate.{AutomationRate}
use Rattle.rules.specs.declared.AutomationRate.TheVariants as Rate
use Rattle.rules.specs.declared.BlockInfos.{BlockInfos}
use Rattle.rules.specs.Numbers.{limit, place_from, run, filled_at, filled, time_at, is_zero}
use Rattle.rules.specs.Queue.{Waiting, head_of}
use Rattle.rules.specs.Walk.{Walk, fill, with_values, with_intrinsic, with_last, with_turned, consumed, counted, flushed, flushed_for, walked}
use Rattle.rules.specs.Mix.{spread, first_of}
use Rattle.rules.specs.Block.{rendered, rendered_as, rests_for, values_before, walk_from}
use Rattle.laws.proofs.Walks.{Kept, walk_keeps}

-- ---- the end place, as a loop looks for it: with n places passed, `place_from q (count - n) n`

module _ (q : Float) (count n : ℕ) (h : n < count) where
  left : count - n ≡ suc (count - suc n)
  left = omega arith

  pub place_passed : Ieee.lt q (limit n) ≡ false → place_from q (count - n) n ≡ place_from q (count - suc n) (suc n)
  unfolding place_from
  place_passed f = rw (left, f)

  pub place_found : Ieee.lt q (limit n) ≡ true → place_from q (count - n) n ≡ n
  unfolding place_from
  place_found f = rw (left, f)

pub place_none : (q : Float) (count n : ℕ) → count ≤ n → place_from q (count - n) n ≡ n
unfolding place_from
place_none q count n h = let z : count - n ≡ 0 = omega arith in rw z

-- ---- fills

pub run_length : (sample : Float → Float) (period : Float) (k : ℕ) (t : Float) → length (run sample period k t) ≡ k
unfolding run
run_length sample period zero t = refl
run_length sample period (suc k) t = ap suc (run_length sample period k (Ieee.add binary64 t period))

-- a run of one value
pub run_alike : (v period : Float) (k : ℕ) (t : Float) → run (λ s. v) period k t ≡ replicate k v
unfolding run
run_alike v period zero t = refl
run_alike v period (suc k) t = ap (λ (l : List Float). v ∷ l) (run_alike v period k (Ieee.add binary64 t period))

pub fill_k : (f : BlockInfos) (n : ℕ) (sample : Float → Float) (xs : List Float) → f.rate ≡ Rate.K → filled f n sample xs ≡ xs
unfolding filled filled_at
fill_k f n sample xs h = ap (λ (r : AutomationRate). filled_at r f n sample xs) h

pub fill_a : (f : BlockInfos) (n : ℕ) (sample : Float → Float) (xs : List Float) → f.rate ≡ Rate.A
    → filled f n sample xs ≡ xs ++ run sample f.dt (n - length xs) (time_at f (length xs))
unfolding filled filled_at
fill_a f n sample xs h = ap (λ (r : AutomationRate). filled_at r f n sample xs) h

pub fill_alike : (f : BlockInfos) (n : ℕ) (v : Float) (xs : List Float) → f.rate ≡ Rate.A → filled f n (λ s. v) xs ≡ xs ++ replicate (n - length xs) v
fill_alike f n v xs h = fill_a f n (λ s. v) xs h ∙ ap (λ (l : List Float). xs ++ l) (run_alike v f.dt (n - length xs) (time_at f (length xs)))

pub flushed-length : (xs : List Float) → length (flushed xs) ≡ length xs
unfolding flushed
flushed-length [] = refl
flushed-length (x ∷ xs) = ap suc (flushed-length xs)

pub flushed_for-length : (target : Float) (xs : List Float) → length (flushed_for target xs) ≡ length xs
unfolding flushed_for
flushed_for-length target xs = go (is_zero target)
  where
    go : (b : Bool) → length (cond b (flushed xs) xs) ≡ length xs
    go true = flushed-length xs
    go false = refl

-- ---- how many places are filled: at A-rate at most the count while the walk goes on, and all at its end; at K-rate the block's one value

abbrev pub FilledSoFar : AutomationRate → ℕ → ℕ → Type 0
FilledSoFar Rate.A count n = n ≤ count
FilledSoFar Rate.K count n = n ≡ 1

abbrev pub FilledAll : AutomationRate → ℕ → ℕ → Type 0
FilledAll Rate.A count n = n ≡ count
FilledAll Rate.K count n = n ≡ 1

filled_few : (r : AutomationRate) (f : BlockInfos) (n : ℕ) (sample : Float → Float) (xs : List Float) → n ≤ f.count → FilledSoFar r f.count (length xs)
    → FilledSoFar r f.count (length (filled_at r f n sample xs))
unfolding filled_at
filled_few Rate.A f n sample xs h l = simp (length-append, run_length) (omega arith)
filled_few Rate.K f n sample xs h l = l

filled-all : (r : AutomationRate) (f : BlockInfos) (sample : Float → Float) (xs : List Float) → FilledSoFar r f.count (length xs)
    → FilledAll r f.count (length (filled_at r f f.count sample xs))
unfolding filled_at
filled-all Rate.A f sample xs l = simp (length-append, run_length) (omega arith)
filled-all Rate.K f sample xs l = l

module _ (f : BlockInfos) where
  abbrev SoFar : Walk → Type 0
  SoFar w = FilledSoFar f.rate f.count (length w.values)

  abbrev All : Walk → Type 0
  All w = FilledAll f.rate f.count (length w.values)

  kept_so_far : Kept f SoFar
  unfolding fill filled with_values with_intrinsic with_last with_turned consumed counted
  kept_so_far =
      record {
        takes = λ w l. l;
        last = λ w l. l;
        turns = λ w l. l;
        fills = λ n sample w h l. filled_few f.rate f n sample w.values h l;
        flushes = λ target w l. rw (flushed_for-length target w.values) l;
        intrinsic = λ v w l. l;
        consumes = λ t v w l. l;
      }

  before_few : (r : AutomationRate) (v : Float) → FilledSoFar r f.count (length (values_before r v))
  unfolding values_before
  before_few Rate.A v = omega arith
  before_few Rate.K v = refl

  pub walk_fills : (ws : List Waiting) (w : Walk) → FilledSoFar f.rate f.count (length w.values)
      → FilledAll f.rate f.count (length (walked f w ws).walk.values)
  unfolding fill filled with_values
  walk_fills ws w l =
      walk_keeps f SoFar All kept_so_far (λ w l. filled-all f.rate f (λ s. w.intrinsic) w.values l) ws w l

  -- ---- a block's samples

  spread-all : (r : AutomationRate) (count : ℕ) (xs : List Float) → FilledAll r count (length xs) → length (spread r count xs) ≡ count
  unfolding spread
  spread-all Rate.A count xs h = h
  spread-all Rate.K count xs h = length-replicate count (first_of xs)

  alike : (r : AutomationRate) (count : ℕ) (v : Float) → length (spread r count (replicate count v)) ≡ count
  unfolding spread
  alike Rate.A count v = length-replicate count v
  alike Rate.K count v = length-replicate count (first_of (replicate count v))

  pub samples_count : (v : Float) (l : Option Finished) (ws : List Waiting) → length (spread f.rate f.count (rendered f v l ws).walk.values) ≡ f.count
  unfolding rendered
  samples_count v l ws = go (rests_for f (head_of ws))
    where
      go : (b : Bool) → length (spread f.rate f.count (rendered_as b f v l ws).walk.values) ≡ f.count
      go true = unfold rendered_as in alike f.rate f.count v
      go false =
          unfold rendered_as in
          spread-all f.rate f.count _ (walk_fills ws (walk_from v l (values_before f.rate v) 0) (before_few f.rate v))
