-- A call's rows one after the other, and the tests that they name. Assumes nothing.
use Rattle.std.proofs.Common.{arith}
use Rattle.std.specs.Bool.{MatchBool}
use Rattle.std.specs.List.{AllWithin, HoldsAt}
use mathlib.Core.Path.{◌≡◌, refl, sym, ◌∙◌}
use mathlib.Core.Bool.{Bool, true, false, ◌&&◌, and-true, and-false}
use mathlib.Core.List.{List, [], ◌∷◌}
use Prim.Native.Nat.{ℕ, zero, suc, ◌<◌}
use lib.ListN.{length}
use lib.Ieee.{Float}
use Rattle.rules.specs.Numbers.{is_finite}
use Rattle.rules.specs.Refusals.{all_finite}

-- ---- the tests

pub found : {a b t : Bool} → a ≡ b → a ≡ t → b ≡ t
found e f = sym e ∙ f

-- ---- finite numbers

pub one_finite : {a : Bool} (x : Float) → a ≡ is_finite x → a ≡ all_finite (x ∷ [])
unfolding all_finite
one_finite x e = e ∙ sym (and-true (is_finite x))

pub more_finite : {a b : Bool} (x : Float) (xs : List Float) → a ≡ is_finite x → b ≡ all_finite xs → (a && b) ≡ all_finite (x ∷ xs)
unfolding all_finite
more_finite x xs e f = rw (e, f)

-- where `all` says yes, and where no
pub all_are_finite : (xs : List Float) → AllWithin (λ x. is_finite x ≡ true) xs 0 (length xs) → all_finite xs ≡ true
unfolding all_finite
all_are_finite [] h = refl
all_are_finite (x ∷ xs) h = rw (h 0 x (omega arith) (omega arith)) (all_are_finite xs (λ k d l m. h (suc k) d (omega arith) (omega arith)))

pub one_is_not : (xs : List Float) (k : ℕ) → k < length xs → HoldsAt (λ x. is_finite x ≡ false) xs k → all_finite xs ≡ false
unfolding all_finite
one_is_not [] k l h = absurd (omega arith)
one_is_not (x ∷ xs) zero l h = rw (h x)
one_is_not (x ∷ xs) (suc k) l h = rw (one_is_not xs k (omega arith) (λ d. h d)) (and-false (is_finite x))

pub all_finite_is : (xs : List Float) (r : Bool)
    → MatchBool r (AllWithin (λ x. is_finite x ≡ true) xs 0 (length xs)) ((k : ℕ) × (k < length xs) × HoldsAt (λ x. is_finite x ≡ false) xs k) → r ≡ all_finite xs
all_finite_is xs true h = sym (all_are_finite xs h)
all_finite_is xs false h = sym (one_is_not xs h.0 h.1 h.2)
