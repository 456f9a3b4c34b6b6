-- What a pattern that is not 0 shows. Assumes nothing.
use mathlib.Core.Path.{◌≡◌, sym, ◌∙◌, subst}
use mathlib.Core.Bool.{Bool, false, not}
use mathlib.Core.Logic.{◌⊎◌, inl, inr}
use Prim.Native.Nat.{ℕ}
use lib.Dec.{T}
use lib.Ieee.{Float, binary32, binary64, fits, is_nan, of_bits}
use Rattle.phases.specs.Patterns.{Holds}

pub seen : {A : Type 0} (n : ℕ) → (n ≡ 0) ⊎ A → (n ≡ 0 → ⊥) → A
seen n (inl e) h = absurd (h e)
seen n (inr a) h = a

pub holds_fits : (n : ℕ) (y : Float) → Holds n y → T (fits binary32 y) → T (fits binary32 (of_bits binary64 n))
holds_fits n y h t = subst (λ (v : Float). T (fits binary32 v)) (sym h.0) t

pub no_nan : (x : Float) {r : Bool} → r ≡ is_nan x → r ≡ false → T (not (is_nan x))
no_nan x e h = subst (λ (b : Bool). T (not b)) (sym (sym e ∙ h)) tt
