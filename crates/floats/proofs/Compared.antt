-- The kinds of a float, by comparisons: finite lies between the infinities, and a magnitude is a float without its sign. Assumes nothing.
use mathlib.Core.Path.{◌≡◌, refl, sym, ◌∙◌}
use mathlib.Core.Bool.{Bool, true, false, not, ◌&&◌, true≢false, false≢true}
use Prim.Native.Nat.{ℕ, zero, suc, ◌+◌, ◌*◌, ◌<◌}
use native.Mathlib.Omega.{arith}
use native.Mathlib.Nat.{zero-mul, mul-pos, zero-lt-suc}
use borrow.Author.Tests.{ne_eqb, lt-ltb, le-ltb}
use lib.Dec.{T}
use lib.IntN.{ℤ, negsuc}
use lib.Ieee.{Float, nan, inf, fin, binary32, binary64, up, down, lt, eq, ne, fits, is_nan}
use lib.Ieee.Fits.{up_pos, and_i, fits_widens}
use lib.Ieee.Scale.{finite}
use lib.Ieee.Back.{whole_unique}
use Rattle.std.specs.Float.{float_with_sign}
use Rattle.rules.specs.Numbers.{plus_zero, is_finite, magnitude, is_subnormal}

-- ---- finite

pub below_all : (x : Float) → lt (inf true) x ≡ true → lt x (inf false) ≡ is_finite x
unfolding lt is_finite
below_all nan h = refl
below_all (inf true) h = absurd (false≢true h)
below_all (inf false) h = refl
below_all (fin s m e) h = refl

pub not_above : (x : Float) → lt (inf true) x ≡ false → lt (inf true) x ≡ is_finite x
unfolding lt is_finite
not_above nan h = refl
not_above (inf true) h = refl
not_above (inf false) h = absurd (true≢false h)
not_above (fin s m e) h = absurd (true≢false h)

-- both tests at once
pub between : (x : Float) → (lt (inf true) x && lt x (inf false)) ≡ is_finite x
between x = go (lt (inf true) x) refl
  where
    go : (b : Bool) → lt (inf true) x ≡ b → (b && lt x (inf false)) ≡ is_finite x
    go true h = below_all x h
    go false h = sym h ∙ not_above x h

-- what the kit calls finite
pub finite_is : (x : Float) → is_finite x ≡ finite x
unfolding is_finite
finite_is nan = refl
finite_is (inf s) = refl
finite_is (fin s m e) = refl

-- so of a float that was tested
pub tested : (x : Float) {r t : Bool} → r ≡ is_finite x → r ≡ t → finite x ≡ t
tested x e h = sym (finite_is x) ∙ sym e ∙ h

pub finite_of : (x : Float) → is_finite x ≡ true → T (finite x)
unfolding is_finite
finite_of nan h = absurd (false≢true h)
finite_of (inf s) h = absurd (false≢true h)
finite_of (fin s m e) h = tt

-- and so no NaN
pub finite_held : (x : Float) → T (fits binary32 x) → is_finite x ≡ true → T (fits binary64 x && not (is_nan x))
unfolding is_finite is_nan
finite_held nan t h = absurd (false≢true h)
finite_held (inf s) t h = absurd (false≢true h)
finite_held (fin s m e) t h = and_i (fits binary64 (fin s m e)) true (fits_widens (fin s m e) t) tt

-- ---- equal to 0

pub is_none : (s : Bool) (m : ℕ) (e : ℤ) → eq (fin s m e) plus_zero ≡ true → m ≡ 0
unfolding eq
is_none s zero e h = refl
is_none s (suc m) e h =
    let p : 0 < suc m * up e = mul-pos (zero-lt-suc m) (up_pos e) in
    let n : suc m * up e * 1 ≡ 0 * 1 * down e → ⊥ = λ z. omega (arith, z, zero-mul (1 * down e)) in
    absurd (false≢true (rw (ne_eqb (suc m * up e * 1) (0 * 1 * down e) n) at h))

pub zero_is : (s : Bool) (e : ℤ) → eq (fin s 0 e) plus_zero ≡ true
unfolding eq
zero_is true e = rw (zero-mul (up e), zero-mul (down e))
zero_is false e = rw (zero-mul (up e), zero-mul (down e))

-- ---- below 0

pub below_zero : (m : ℕ) (e : ℤ) → lt (fin true (suc m) e) plus_zero ≡ true
unfolding lt
below_zero m e = let p : 0 < suc m * up e = mul-pos (zero-lt-suc m) (up_pos e) in lt-ltb 0 (suc m * up e * 1 + 0 * 1 * down e) (omega arith)

pub not_below : (m : ℕ) (e : ℤ) → lt (fin false m e) plus_zero ≡ false
unfolding lt
not_below m e = le-ltb (m * up e * 1) (0 * 1 * down e) (omega (arith, zero-mul (1 * down e)))

-- ---- the magnitude

pub magnitude_none : (x : Float) → T (fits binary32 x) → eq x plus_zero ≡ true → plus_zero ≡ magnitude x
unfolding eq magnitude fits
magnitude_none nan t h = absurd (false≢true h)
magnitude_none (inf s) t h = absurd (false≢true h)
magnitude_none (fin s zero e) t h =
    whole_unique binary32 plus_zero (fin false 0 e) false 0 tt t (refl, refl) (refl, rw (zero-mul (up e), zero-mul (down e)))
magnitude_none (fin s (suc m) e) t h = absurd (omega (arith, is_none s (suc m) e h))

-- std's word for it
pub magnitude_is : (x : Float) → float_with_sign false x ≡ magnitude x
unfolding magnitude float_with_sign
magnitude_is nan = refl
magnitude_is (inf s) = refl
magnitude_is (fin s m e) = refl

-- ---- subnormal

pub subnormal_below : (x : Float) → ne x plus_zero ≡ true → lt (magnitude x) (fin false 1 (negsuc 125)) ≡ is_subnormal x
unfolding magnitude is_subnormal ne lt
subnormal_below nan h = refl
subnormal_below (inf s) h = refl
subnormal_below (fin s zero e) h = absurd (false≢true (rw (zero_is s e) at h))
subnormal_below (fin s (suc m) e) h = rw (ne_eqb (suc m) 0 (native.Mathlib.Nat.suc-ne-zero m))

pub none_subnormal : (x : Float) → ne x plus_zero ≡ false → ne x plus_zero ≡ is_subnormal x
unfolding is_subnormal ne
none_subnormal nan h = absurd (true≢false h)
none_subnormal (inf s) h = absurd (true≢false h)
none_subnormal (fin s zero e) h = h
none_subnormal (fin s (suc m) e) h = absurd (omega (arith, is_none s (suc m) e (unnot (eq (fin s (suc m) e) plus_zero) h)))
  where
    unnot : (b : Bool) → not b ≡ false → b ≡ true
    unnot true h = refl
    unnot false h = absurd (true≢false h)
