-- A sum with +0 is the other number, but for -0, which becomes +0: no comparison sees it. Over either format. Assumes nothing.
use mathlib.Core.Path.{◌≡◌, refl, sym, ap, ◌∙◌, subst}
use mathlib.Core.Logic.{◌⊎◌, inl, inr}
use mathlib.Core.Bool.{Bool, true, false}
use Prim.Native.Nat.{ℕ, zero, suc, ◌+◌, ◌-◌, ◌*◌, ◌^◌, ◌<◌}
use native.Mathlib.Nat.{lt_irrefl, zero-lt-suc, zero-mul, zero-add, add-zero, mul-pos}
use native.Mathlib.Omega.{arith}
use borrow.Author.Tests.{lt-ltb, le-ltb}
use lib.Dec.{T, ltb}
use lib.Pow.{pow_pos}
use lib.IntN.{ℤ, pos}
use lib.Ieee.{Float, nan, inf, fin, Format, binary32, binary64, low, up, down, round, sum, add, lt, is_nan, fits}
use lib.Ieee.Fits.{up_pos, round-fits}
use lib.Ieee.Exact.{HasValue, round_exact}
use Rattle.rules.specs.Numbers.{plus_zero}
use Rattle.rounding_laws.specs.Parts.{Parted}
use Rattle.rounding_laws.proofs.Value.{zero_exp, value_unique, under_overflow}
use Rattle.rounding_laws.proofs.Parts.{parted}
use Rattle.rounding_laws.proofs.Fuse.{add_value}

abbrev pub minus_zero : Float
minus_zero = fin true 0 (pos 0)

sum_with_none : (f : Format) (s : Bool) (b c : ℕ) → 0 < b → sum f false 0 s b c ≡ round f s b c
unfolding sum
sum_with_none f false b c h = ap (λ (n : ℕ). round f false n c) (zero-add b)
sum_with_none f true b c h = rw (lt-ltb 0 b h) (ap (λ (n : ℕ). round f true n c) less)
  where
    less : b - 0 ≡ b
    less = omega arith

-- of a number that is not 0
module _ (f : Format) (x : Float) (s : Bool) (m j : ℕ) (fit : T (fits f x)) (P : Parted f x s m j) (some : 0 < m * 2 ^ j) where
  plus_some : add f plus_zero x ≡ x
  plus_some =
      let d = 2 ^ low f in
      let b = m * 2 ^ j in
      add_value f false s 0 b d (pow_pos (low f)) plus_zero x (refl, ap (λ (n : ℕ). n * d) (zero-mul 1) ∙ zero-mul d) P.value
      ∙ sum_with_none f s b d some
      ∙ value_unique f (round f s b d) x s b d (round-fits f s b d) fit (pow_pos (low f)) (round_exact f s b d m j (pow_pos (low f)) P.short (under_overflow f x s b fit P.value) refl) P.value

none_of : (x : Float) (s : Bool) (b d : ℕ) → HasValue x s b d → (t : Bool) (m : ℕ) (e : ℤ) → x ≡ fin t (suc m) e → 0 < d → 0 < b
none_of x s zero d v t m e h p =
    let w : HasValue (fin t (suc m) e) s 0 d = subst (λ (y : Float). HasValue y s 0 d) h v in
    absurd (lt_irrefl 0 (subst (λ (n : ℕ). 0 < n) (w.1 ∙ zero-mul (down e)) (mul-pos (mul-pos (zero-lt-suc m) (up_pos e)) p)))
none_of x s (suc b) d v t m e h p = zero-lt-suc b

pub plus_zero_lem : (f : Format) (x : Float) → T (fits f x) → (x ≡ minus_zero) ⊎ (add f plus_zero x ≡ x)
unfolding add sum round
plus_zero_lem f nan fit = inr refl
plus_zero_lem f (inf s) fit = inr refl
plus_zero_lem f (fin true zero e) fit = inl (ap (fin true 0) (zero_exp f true e fit))
plus_zero_lem binary32 (fin false zero e) fit = inr (ap (λ (i : ℤ). add binary32 plus_zero (fin false 0 i)) (zero_exp binary32 false e fit) ∙ ap (fin false 0) (sym (zero_exp binary32 false e fit)))
plus_zero_lem binary64 (fin false zero e) fit = inr (ap (λ (i : ℤ). add binary64 plus_zero (fin false 0 i)) (zero_exp binary64 false e fit) ∙ ap (fin false 0) (sym (zero_exp binary64 false e fit)))
plus_zero_lem f (fin s (suc m) e) fit =
    let P = parted f (fin s (suc m) e) fit tt in
    inr (plus_some f (fin s (suc m) e) _ _ _ fit P (none_of (fin s (suc m) e) _ _ (2 ^ low f) P.value s m e refl (pow_pos (low f))))

-- ---- what comparisons see of it

minus_plus : (f : Format) → add f plus_zero minus_zero ≡ plus_zero
unfolding add sum round
minus_plus binary32 = refl
minus_plus binary64 = refl

zero_below : (y : Float) → lt plus_zero y ≡ lt minus_zero y
unfolding lt
zero_below nan = refl
zero_below (inf t) = refl
zero_below (fin true n d) = sym (le-ltb (n * up d * 1) (0 * 1 * down d) (omega (arith, zero-mul (down d))))
zero_below (fin false n d) = ap (λ (k : ℕ). ltb k (n * up d * 1)) (zero-mul (down d)) ∙ ap (λ (k : ℕ). ltb 0 k) (sym (zero-add (n * up d * 1)) ∙ ap (λ (k : ℕ). k + n * up d * 1) (sym (zero-mul (down d))))

below_zero : (y : Float) → lt y plus_zero ≡ lt y minus_zero
unfolding lt
below_zero nan = refl
below_zero (inf t) = refl
below_zero (fin true n d) = go (n * up d * 1)
  where
    go : (k : ℕ) → ltb 0 (k + 0 * 1 * down d) ≡ ltb (0 * 1 * down d) k
    go k = ap (λ (z : ℕ). ltb 0 (k + z)) (zero-mul (down d)) ∙ ap (ltb 0) (add-zero k) ∙ ap (λ (z : ℕ). ltb z k) (sym (zero-mul (down d)))
below_zero (fin false n d) = le-ltb (n * up d * 1) (0 * 1 * down d) (omega (arith, zero-mul (down d)))

module _ (f : Format) (x : Float) (fit : T (fits f x)) where
  -- whatever sees no sign of a zero sees x
  seen : {A : Type 0} (g : Float → A) → g plus_zero ≡ g minus_zero → g (add f plus_zero x) ≡ g x
  seen g h = go (plus_zero_lem f x fit)
    where
      go : (x ≡ minus_zero) ⊎ (add f plus_zero x ≡ x) → g (add f plus_zero x) ≡ g x
      go (inl e) = ap (λ (y : Float). g (add f plus_zero y)) e ∙ ap g (minus_plus f) ∙ h ∙ ap g (sym e)
      go (inr e) = ap g e

  pub plus_zero_below : (y : Float) → lt (add f plus_zero x) y ≡ lt x y
  plus_zero_below y = seen (λ (z : Float). lt z y) (zero_below y)

  pub below_plus_zero : (y : Float) → lt y (add f plus_zero x) ≡ lt y x
  below_plus_zero y = seen (lt y) (below_zero y)

  pub plus_zero_nan : is_nan (add f plus_zero x) ≡ is_nan x
  unfolding is_nan
  plus_zero_nan = seen is_nan refl
