-- What stands in each place of a list.
use Rattle.std.specs.Prelude.{◌≡◌, ℕ, ◌<◌, List, length, slice_index_or}

-- P of each of the first n places and what stands there
pub record Each {A : Type 0} (P : ℕ → A → Type 0) (n : ℕ) (l : List A) : Type 0 where
  pub at : (k : ℕ) (other : A) → k < n → P k (slice_index_or l k other)

-- R of what stands in the same places of two lists
pub record Maps {A B : Type 0} (R : A → B → Type 0) (l : List A) (m : List B) : Type 0 where
  pub as_many : length m ≡ length l
  pub at : (k : ℕ) (other : A) (another : B) → k < length l → R (slice_index_or l k other) (slice_index_or m k another)
