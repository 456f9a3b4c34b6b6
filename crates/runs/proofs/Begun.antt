-- Times none of which lies before the start. Assumes nothing.
use Rattle.std.proofs.Common.{◌≡◌, ℕ, zero, suc, Bool, true, false, cond, not, List, ◌∷◌, sym, refl, ap, ◌∙◌, true≢false}
use lib.Ieee.{Float, binary64, add, lt}
use Rattle.rules.specs.Numbers.{run}
use Rattle.rules.specs.Walk.{from_start}
use Rattle.kernels.proofs.Powers.{both}
use Rattle.runs.specs.After.{after}
use Rattle.runs.specs.Passes.{begun}
use Rattle.runs.proofs.Filling.{after_first}

module _ (start dt : Float) where
  -- then nothing is held back
  pub run-begun : (v : Float) (s : Float → Float) (n : ℕ) (t : Float) → begun start dt n t ≡ true → run (from_start start v s) dt n t ≡ run s dt n t
  unfolding begun run from_start
  run-begun v s zero t h = refl
  run-begun v s (suc n) t h =
      let k = both (not (lt t start)) (begun start dt n (add binary64 t dt)) h in
      ap (λ (x : Float). x ∷ run (from_start start v s) dt n (add binary64 t dt)) (now_on (lt t start) k.0) ∙ ap (λ (l : List Float). s t ∷ l) (run-begun v s n (add binary64 t dt) k.1)
    where
      now_on : (b : Bool) → not b ≡ true → cond b v (s t) ≡ s t
      now_on true h = absurd (true≢false (sym h))
      now_on false h = refl

  -- and so it is where no time lies before the start
  pub none_before : (n : ℕ) (t : Float) → ((j : ℕ) → lt (after dt j t) start ≡ false) → begun start dt n t ≡ true
  unfolding begun after
  none_before zero t h = refl
  none_before (suc n) t h =
      let e : lt t start ≡ false = h 0 in
      rw e (none_before n (add binary64 t dt) (λ j. rw (after_first dt j t) (h (suc j))))
