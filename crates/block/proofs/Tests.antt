-- Tests on what is lent, made by its length. Assumes nothing.
use mathlib.Core.Path.{◌≡◌, refl, sym, ◌∙◌}
use mathlib.Core.Bool.{true, false}
use mathlib.Core.List.{List, [], ◌∷◌}
use Prim.Native.Nat.{ℕ}
use native.Mathlib.Omega.{arith}
use lib.Dec.{eqb, eqb-suc-zero}
use lib.ListN.{length}
use borrow.Author.Tests.{eqb-true, eq-eqb, ne_eqb}
use lib.Ieee.{Float}
use Rattle.rules.specs.Refusals.{fits_count}
use Rattle.rules.specs.Block.{is_silent}

-- an input of length 0 is silence
pub silent_test : (xs : List Float) {n : ℕ} → length xs ≡ n → eqb n 0 ≡ is_silent xs
unfolding is_silent
silent_test [] e = rw (sym e)
silent_test (x ∷ xs) e = rw (sym e) (eqb-suc-zero (length xs))

pub silent : (xs : List Float) → length xs ≡ 0 → is_silent xs ≡ true
silent xs h = sym (silent_test xs refl) ∙ eq-eqb (length xs) 0 h

pub not_silent : (xs : List Float) → (length xs ≡ 0 → ⊥) → is_silent xs ≡ false
not_silent xs h = sym (silent_test xs refl) ∙ ne_eqb (length xs) 0 h

-- an input that is no silence is as long as the block
pub fits_whole : (xs : List Float) (count : ℕ) → fits_count xs count ≡ true → is_silent xs ≡ false → length xs ≡ count
unfolding fits_count is_silent
fits_whole [] count f s = let z : ◌≡◌ {A = ℕ} 0 1 = cc in absurd (omega arith)
fits_whole (x ∷ xs) count f s = eqb-true (length (x ∷ xs)) count f
