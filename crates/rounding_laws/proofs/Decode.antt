-- Which floats are NaNs, which are finite, what a normal number's pattern stands for; and narrowing goes by the value. Assumes nothing.
use mathlib.Core.Path.{◌≡◌, refl, sym, ap, ◌∙◌, subst}
use Prim.Native.Nat.{ℕ, suc, ◌+◌, ◌*◌, ◌/◌, ◌%◌, ◌^◌, ◌<◌}
use native.Mathlib.Nat.{mul_assoc, mul_right_comm}
use mathlib.Core.Bool.{Bool, true, false, not, cond, true≢false, false≢true}
use lib.Dec.{T, leb, eqb}
use lib.Ieee.{Float, nan, inf, fin, Format, low, up, down, round, ne, is_nan, hid, ones, top, of_bits, binary32, lt, neg}
use lib.Ieee.Fits.{down_pos}
use lib.Ieee.Exact.{HasValue}
use lib.Ieee.Scale.{round_same, finite}
use lib.Ieee.Compare.{nan_differs}
use Rattle.rules.specs.Numbers.{narrowed}
use Rattle.rounding_laws.proofs.Value.{digits, power, bits_value, at_ones}

-- ---- `x != x` is false of no NaN
pub no_nan_of : (x : Float) → ne x x ≡ false → T (not (is_nan x))
unfolding is_nan
no_nan_of nan h = absurd (true≢false (sym nan_differs ∙ h))
no_nan_of (inf s) h = tt
no_nan_of (fin s m e) h = tt

-- ---- narrowing goes by the value
pub narrowed_value : (x : Float) (s : Bool) (a c : ℕ) → 0 < c → HasValue x s a c → narrowed x ≡ round binary32 s a c
unfolding narrowed
narrowed_value nan s a c C v = absurd v
narrowed_value (inf t) s a c C v = absurd v
narrowed_value (fin t m e) s a c C v =
    ap (λ (u : Bool). round binary32 u (m * up e) (down e)) v.0 ∙ round_same binary32 s (m * up e) (down e) a c (down_pos e) C v.1

-- ---- a pattern of a normal number
pub normal_value : (f : Format) (b x : ℕ) → suc x < ones f → b % top f / hid f ≡ suc x → HasValue (of_bits f b) (leb (top f) b) ((hid f + b % hid f) * 2 ^ x) (2 ^ low f)
normal_value f b x o z =
    subst (λ (x : ℕ). HasValue (of_bits f b) (leb (top f) b) (digits f x (b % hid f) * 2 ^ power x) (2 ^ low f)) z (bits_value f b (subst (λ (x : ℕ). x < ones f) (sym z) o))

-- ---- a factor moved from the denominator
pub moved : (t u e v w : ℕ) → u * v ≡ w → t * u * e * v ≡ t * e * w
moved t u e v w h = ap (λ (x : ℕ). x * v) (mul_right_comm t u e) ∙ mul_assoc (t * e) u v ∙ ap (λ (x : ℕ). t * e * x) h

-- ---- a finite float
pub finite_no_nan : (x : Float) → T (finite x) → T (not (is_nan x))
unfolding is_nan
finite_no_nan nan h = absurd h
finite_no_nan (inf s) h = tt
finite_no_nan (fin s m e) h = tt

none_finite : (b : Bool) (s : Bool) → T (finite (cond b (inf s) nan)) → ⊥
none_finite true s t = t
none_finite false s t = t

pub finite_field : (f : Format) (b : ℕ) → T (finite (of_bits f b)) → b % top f / hid f ≡ ones f → ⊥
unfolding of_bits
finite_field f b t z = none_finite (eqb (b % hid f) 0) (leb (top f) b) (subst (λ (v : Float). T (finite v)) (at_ones f (leb (top f) b) (b % top f / hid f) (b % hid f) z) t)

-- ---- by two comparisons with the infinity i
pub finite_below : (x i : Float) → i ≡ inf false → lt x i ≡ true → lt (neg i) x ≡ finite x
unfolding lt neg
finite_below x i e h = subst (λ (j : Float). lt (neg j) x ≡ finite x) (sym e) (go x (subst (λ (j : Float). lt x j ≡ true) e h))
  where
    go : (x : Float) → lt x (inf false) ≡ true → lt (neg (inf false)) x ≡ finite x
    go nan h = refl
    go (inf true) h = refl
    go (inf false) h = absurd (false≢true h)
    go (fin s m e) h = refl

pub finite_not : (x i : Float) → i ≡ inf false → lt x i ≡ false → false ≡ finite x
unfolding lt
finite_not x i e h = go x (subst (λ (j : Float). lt x j ≡ false) e h)
  where
    go : (x : Float) → lt x (inf false) ≡ false → false ≡ finite x
    go nan h = refl
    go (inf s) h = refl
    go (fin s m e) h = absurd (true≢false h)
