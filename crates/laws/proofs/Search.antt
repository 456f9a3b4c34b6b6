-- The search for the first event that passes a test, as a loop makes it. Assumes nothing.
use mathlib.Core.Path.{◌≡◌}
use mathlib.Core.Bool.{Bool, true, false, cond}
use mathlib.Core.List.{List, [], ◌∷◌}
use Prim.Native.Nat.{ℕ, suc, ◌≤◌, ◌<◌}
use native.Mathlib.Omega.{arith}
use lib.ListN.{length, drop, get_or, drop_of_length-le}
use lib.Seq.{drop-cons}
use Rattle.laws.specs.Search.{place_of}

-- with the first i looked at, `place_of test q ≡ i + place_of test (drop i q)`
module _ {A : Type 0} (test : A → Bool) (q : List A) (i : ℕ) (d : A) (l : i < length q) where
  pub place_here : test (get_or q i d) ≡ true → place_of test (drop i q) ≡ 0
  unfolding place_of
  place_here h = rw (drop-cons q i d l, h)

  pub place_more : test (get_or q i d) ≡ false → place_of test (drop i q) ≡ suc (place_of test (drop (suc i) q))
  unfolding place_of
  place_more h = rw (drop-cons q i d l, h)

pub place_end : {A : Type 0} (test : A → Bool) (q : List A) (i : ℕ) → length q ≤ i → place_of test (drop i q) ≡ 0
unfolding place_of
place_end test q i l = rw (drop_of_length-le q l)

pub place_most : {A : Type 0} (test : A → Bool) (q : List A) → place_of test q ≤ length q
unfolding place_of
place_most test [] = omega arith
place_most test (x ∷ q) = go (test x) (place_most test q)
  where
    go : (b : Bool) → place_of test q ≤ length q → cond b 0 (suc (place_of test q)) ≤ suc (length q)
    go true h = omega arith
    go false h = omega arith
