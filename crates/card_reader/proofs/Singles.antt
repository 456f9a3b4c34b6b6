-- The numbers of a curve's field, one after the other. Assumes nothing.
use mathlib.Core.Path.{◌≡◌, ap}
use mathlib.Core.Bool.{true, false}
use mathlib.Core.List.{List, [], ◌∷◌, ◌++◌, append_assoc, append-nil}
use Prim.Native.Nat.{ℕ, suc, ◌+◌, ◌-◌, ◌*◌, ◌≤◌, ◌<◌}
use native.Mathlib.Numerals.{add-one}
use native.Mathlib.Omega.{arith}
use lib.ListN.{length, take, set}
use lib.Seq.{take-suc-set, take_all}
use lib.Ieee.{Float}
use Rattle.rules.specs.Numbers.{is_finite}
use Rattle.rules.specs.Refusals.{all_finite}
use Rattle.words.specs.Words.{single_at, singles_at}

module _ (bs : List ℕ) (at n : ℕ) where
  -- those from the place i on
  abbrev pub singles_from : ℕ → List Float
  singles_from i = singles_at bs (at + 4 * i) (n - i)

  singles-next : (i : ℕ) → i < n → singles_from i ≡ single_at bs (at + 4 * i) ∷ singles_from (i + 1)
  unfolding singles_at
  singles-next i h =
      let more : n - i ≡ suc (n - (i + 1)) = omega arith in
      let next : at + 4 * (i + 1) ≡ at + 4 * i + 4 = omega arith in
      rw (more, next)

  singles-over : (i : ℕ) → n ≤ i → singles_from i ≡ []
  unfolding singles_at
  singles-over i h = let none : n - i ≡ 0 = omega arith in rw none

  -- ---- read into a slice

  pub read-turn : (values : List Float) (i : ℕ) → i < n → i < length values
      → take i values ++ singles_from i ≡ take (i + 1) (set values i (single_at bs (at + 4 * i))) ++ singles_from (i + 1)
  read-turn values i h inside =
      rw (add-one i, take-suc-set values i (single_at bs (at + 4 * i)) inside, append_assoc (take i values) (single_at bs (at + 4 * i) ∷ []) (singles_from (suc i)), ← add-one i)
      (ap (λ (xs : List Float). take i values ++ xs) (singles-next i h))

  pub read-over : (values : List Float) (i : ℕ) → n ≤ i → length values ≤ i → take i values ++ singles_from i ≡ values
  read-over values i h k = rw (take_all i values k, singles-over i h) (append-nil values)

  -- ---- asked whether they are finite

  pub finite_turn : (i : ℕ) → i < n → is_finite (single_at bs (at + 4 * i)) ≡ true → all_finite (singles_from i) ≡ all_finite (singles_from (i + 1))
  unfolding all_finite
  finite_turn i h fine = rw (singles-next i h, fine)

  pub finite_not : (i : ℕ) → i < n → is_finite (single_at bs (at + 4 * i)) ≡ false → all_finite (singles_from i) ≡ false
  unfolding all_finite
  finite_not i h odd = rw (singles-next i h, odd)

  pub finite_over : (i : ℕ) → n ≤ i → all_finite (singles_from i) ≡ true
  unfolding all_finite
  finite_over i h = rw (singles-over i h)
