-- Tests taken apart and put together. Assumes nothing.
use mathlib.Core.Path.{◌≡◌, refl, sym, ◌∙◌}
use mathlib.Core.Bool.{Bool, true, false, ◌&&◌, ◌||◌}
use Prim.Native.Nat.{ℕ}
use native.Mathlib.Omega.{arith}
use lib.Dec.{T}

pub never {ℓ} : {A : Type ℓ} → false ≡ true → A
never h = let z : ◌≡◌ {A = ℕ} 0 1 = cc in absurd (omega arith)

-- a test that both passes and fails
pub clash {ℓ} : {A : Type ℓ} {b : Bool} → b ≡ true → b ≡ false → A
clash h k = never (sym k ∙ h)

-- a law of the kit says that a test holds
pub told : (b : Bool) → T b → b ≡ true
told true h = refl
told false h = absurd h

pub both : (a b : Bool) → (a && b) ≡ true → (a ≡ true) × (b ≡ true)
both true true h = (refl, refl)
both true false h = never h
both false b h = never h

pub and : {a b : Bool} → a ≡ true → b ≡ true → (a && b) ≡ true
and h k = rw (h, k)

pub neither : (a b : Bool) → (a || b) ≡ false → (a ≡ false) × (b ≡ false)
neither true b h = never (sym h)
neither false true h = never (sym h)
neither false false h = (refl, refl)
