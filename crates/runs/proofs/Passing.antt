-- f of each number of a list. Assumes nothing.
use Rattle.std.proofs.Common.{◌≡◌, ℕ, zero, suc, ◌<◌, List, [], ◌∷◌, length, get_or, refl, ap, le_of_suc-le-suc, arith}
use lib.Ieee.{Float, nan, binary64, add}
use Rattle.rules.specs.Numbers.{run}
use Rattle.runs.specs.Passes.{each}

module _ (f : Float → Float) where
  -- a list that has f of each number in its place is that
  pub each_told : (xs ys : List Float) → length ys ≡ length xs → ((k : ℕ) → k < length xs → get_or ys k nan ≡ f (get_or xs k nan)) → ys ≡ each f xs
  unfolding each
  each_told [] [] e h = refl
  each_told [] (y ∷ ys) e h = absurd (omega arith)
  each_told (x ∷ xs) [] e h = absurd (omega arith)
  each_told (x ∷ xs) (y ∷ ys) e h = λ j. h 0 (omega arith) j ∷ each_told xs ys (omega (arith, e)) (λ k m. h (suc k) (omega arith)) j

  pub each-run : (g : Float → Float) (dt : Float) (n : ℕ) (t : Float) → each f (run g dt n t) ≡ run (λ u. f (g u)) dt n t
  unfolding each run
  each-run g dt zero t = refl
  each-run g dt (suc n) t = ap (λ (l : List Float). f (g t) ∷ l) (each-run g dt n (add binary64 t dt))

  pub each-length : (xs : List Float) → length (each f xs) ≡ length xs
  unfolding each
  each-length [] = refl
  each-length (x ∷ xs) = ap suc (each-length xs)

  pub each_at : (xs : List Float) (i : ℕ) (d : Float) → i < length xs → get_or (each f xs) i d ≡ f (get_or xs i d)
  unfolding each
  each_at [] i d h = absurd (omega arith)
  each_at (x ∷ xs) zero d h = refl
  each_at (x ∷ xs) (suc i) d h = each_at xs i d (le_of_suc-le-suc h)

  pub each-each : (g : Float → Float) (xs : List Float) → each f (each g xs) ≡ each (λ x. f (g x)) xs
  unfolding each
  each-each g [] = refl
  each-each g (x ∷ xs) = ap (λ (l : List Float). f (g x) ∷ l) (each-each g xs)

  pub each_same : (g : Float → Float) (xs : List Float) → ((i : ℕ) → i < length xs → f (get_or xs i nan) ≡ g (get_or xs i nan)) → each f xs ≡ each g xs
  unfolding each
  each_same g [] h = refl
  each_same g (x ∷ xs) h = (λ i. h 0 (omega arith) i ∷ each_same g xs (λ k l. h (suc k) (omega arith)) i)
