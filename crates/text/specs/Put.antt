-- What a buffer holds once something is written into it.
use Rattle.std.specs.Prelude.{◌≡◌, List, ◌++◌, ℕ, ◌+◌, length, take, drop}

-- xs over what stood in l from the place `at` on; the rest as it was
unfoldable pub put : {A : Type 0} → List A → ℕ → List A → List A
put l at xs = take at l ++ (xs ++ drop (at + length xs) l)

-- l with xs written from `at` on is l', and `next` is the place behind them
pub record Put (l : List ℕ) (at : ℕ) (xs : List ℕ) (l' : List ℕ) (next : ℕ) : Type 0 where
  pub bytes : l' ≡ put l at xs
  pub place : next ≡ at + length xs
