-- A test on an input that is lent, made by its length. Assumes nothing.
use mathlib.Core.Path.{◌≡◌, sym}
use mathlib.Core.Bool.{◌||◌}
use mathlib.Core.List.{List, [], ◌∷◌}
use Prim.Native.Nat.{ℕ}
use lib.Dec.{eqb, eqb-suc-zero}
use lib.ListN.{length}
use lib.Ieee.{Float}
use Rattle.rules.specs.Refusals.{fits_count}

-- "input length neither 0 nor count"
pub fits_test : (xs : List Float) {n : ℕ} (count : ℕ) → length xs ≡ n → (eqb n 0 || eqb n count) ≡ fits_count xs count
unfolding fits_count
fits_test [] count e = rw (sym e)
fits_test (x ∷ xs) count e = rw (sym e, eqb-suc-zero (length xs))
