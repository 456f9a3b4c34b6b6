-- Powers of two compare as their exponents do. Assumes nothing.
use mathlib.Core.Path.{◌≡◌, refl}
use mathlib.Core.Logic.{◌⊎◌, inl, inr}
use mathlib.Core.Bool.{Bool, true, false}
use Prim.Native.Nat.{ℕ, ◌^◌, ◌≤◌, ◌<◌}
use native.Mathlib.Nat.{lt_of_not-le, not-le_of_lt}
use lib.Dec.{leb}
use lib.Pow.{pow_mono}
use borrow.Author.Tests.{leb-true, leb-false}

pub pow_lt_back : (i p : ℕ) → 2 ^ i < 2 ^ p → i < p
pow_lt_back i p h = lt_of_not-le (λ (g : p ≤ i). not-le_of_lt h (pow_mono g))

pub or_less : (d a : ℕ) → (d ≤ a) ⊎ (a < d)
or_less d a = go (leb d a) refl
  where
    go : (t : Bool) → leb d a ≡ t → (d ≤ a) ⊎ (a < d)
    go true h = inl (leb-true d a h)
    go false h = inr (leb-false d a h)
