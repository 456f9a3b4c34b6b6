-- An exponential sample by an estimate of the falling power in its factor. Assumes nothing.
use mathlib.Core.Path.{◌≡◌, refl, sym, ap, ◌∙◌, subst}
use mathlib.Core.Bool.{Bool, true, false, not}
use Prim.Native.Nat.{ℕ, suc, ◌+◌, ◌-◌, ◌*◌, ◌/◌, ◌%◌, ◌^◌, ◌≤◌, ◌<◌}
use native.Mathlib.Nat.{le_trans, mul_assoc, mul_comm, mul_left_comm, mul-pos, mul-le-mul_left, mul-le-mul_right, pos_of_ne-zero}
use native.Mathlib.Omega.{arith}
use borrow.Author.Tests.{lt-leb, ltb-true, ltb-false}
use lib.Dec.{T, leb, ltb, lit≤}
use lib.IntN.{ℤ, pos, negsuc, sub_ℕ}
use lib.Pow.{pow-add, pow_pos}
use lib.Ieee.{Float, nan, inf, fin, binary64, up, down, unlike, round, mul, of_bits, to_bits, nan_bits}
use lib.Ieee.Fits.{down_pos, mul-fits}
use lib.Ieee.Bits.{to_bits-lt}
use lib.Ieee.Exact.{HasValue}
use lib.Ieee.Scale.{finite}
use Rattle.rules.specs.Numbers.{narrowed}
use Rattle.rules.specs.Kernels.{parts, falling}
use Rattle.rules.specs.Samples.{power, factor_of}
use Rattle.rounding_laws.proofs.Decode.{normal_value}
use Rattle.rounding_laws.proofs.Fuse.{rescale}
use Rattle.phases.proofs.Less.{neg_sub, pos_sub, sub_same, sub_value}
use Rattle.samples.proofs.Powers.{part-turn}
use Rattle.phases.specs.Patterns.{Lifted}
use Rattle.phases.proofs.Quick.{factor_lifted}
use Rattle.rounding_laws.specs.Cut.{plain_cut}
use Rattle.rounding_laws.proofs.Cut.{nan_below, plain_nan}
use Rattle.decays.specs.Cell.{Cell, product}
use Rattle.samples.proofs.Held.{mul_same}
use Rattle.decays.proofs.Between.{between}

-- ---- the factor for P = h - 2 ^ 33

power_at : (h : ℕ) → 213 * parts ≤ h → h < 768 * parts → 0 < h % parts → power (sub_ℕ h (2 ^ 33)) ≡ fin false (falling (parts - h % parts)) (sub_ℕ (h / parts) 543)
unfolding power
power_at h l u f = go (ltb h (2 ^ 33)) refl
  where
    go : (b : Bool) → ltb h (2 ^ 33) ≡ b → power (sub_ℕ h (2 ^ 33)) ≡ fin false (falling (parts - h % parts)) (sub_ℕ (h / parts) 543)
    go true e =
        let k = ltb-true h (2 ^ 33) e in
        let p = 2 ^ 33 - suc h in
        let i : parts - 1 - p % parts ≡ h % parts = omega arith in
        let j : suc (p / parts + 30) ≡ 543 - suc (h / parts) = omega arith in
        rw (neg_sub h (2 ^ 33) k, lt-leb (300 * parts) (suc p) (omega arith), i, part-turn (negsuc (p / parts)) (h % parts) f, j)
        (ap (fin false (falling (parts - h % parts))) (sym (neg_sub (h / parts) 543 (omega arith))))
    go false e =
        let k = ltb-false h (2 ^ 33) e in
        let p = h - 2 ^ 33 in
        let i : p % parts ≡ h % parts = omega arith in
        rw (pos_sub h (2 ^ 33) k, lt-leb (256 * parts) p (omega arith), i, part-turn (pos (p / parts)) (h % parts) f)
        (ap (fin false (falling (parts - h % parts))) (sub_same (p / parts) 31 (h / parts) 543 (omega arith)))

-- ---- n * 2 ^ (k - 543) as an f64

shifted : (n u v i j t k a b : ℕ) → n * u * 2 ^ i ≡ n * 2 ^ k * v → i + j ≡ t → a + b ≡ k + j → n * u * 2 ^ t ≡ n * 2 ^ a * 2 ^ b * v
shifted n u v i j t k a b h e f =
    ap (λ (x : ℕ). n * u * 2 ^ x) (sym e) ∙ ap (λ (x : ℕ). n * u * x) (pow-add 2 i j) ∙ sym (mul_assoc (n * u) (2 ^ i) (2 ^ j)) ∙ ap (λ (x : ℕ). x * 2 ^ j) h
    ∙ regroup n (2 ^ k) v (2 ^ j) ∙ ap (λ (x : ℕ). n * x * v) (sym (pow-add 2 k j) ∙ ap (λ (x : ℕ). 2 ^ x) (sym f) ∙ pow-add 2 a b) ∙ ap (λ (x : ℕ). x * v) (sym (mul_assoc n (2 ^ a) (2 ^ b)))
  where
    regroup : (n p v q : ℕ) → n * p * v * q ≡ n * (p * q) * v
    regroup n p v q = simp (mul_assoc, mul_comm, mul_left_comm)

module _ (k n : ℕ) (K : k < 768) (low : 2 ^ 31 ≤ n) (high : n < 2 ^ 32) where
  abbrev bits_of : ℕ
  bits_of = (k + 510) * 2 ^ 52 + n * 2 ^ 21

  split : (bits_of % 2 ^ 63 / 2 ^ 52 ≡ suc (k + 510)) × (2 ^ 52 + bits_of % 2 ^ 52 ≡ n * 2 ^ 21) × (bits_of < 2 ^ 63)
  split = (omega arith, omega arith, omega arith)

  pub factor_value : HasValue (of_bits binary64 bits_of) false (n * up (sub_ℕ k 543)) (down (sub_ℕ k 543))
  factor_value =
      rescale (of_bits binary64 bits_of) false (n * 2 ^ 21 * 2 ^ (k + 510)) (2 ^ 1074) (n * up z) (down z) (pow_pos 1074) scaled
      (subst (λ (s : Bool). HasValue (of_bits binary64 bits_of) s (n * 2 ^ 21 * 2 ^ (k + 510)) (2 ^ 1074)) (lt-leb (2 ^ 63) bits_of split.2)
      (subst (λ (x : ℕ). HasValue (of_bits binary64 bits_of) (leb (2 ^ 63) bits_of) (x * 2 ^ (k + 510)) (2 ^ 1074)) split.1
      (normal_value binary64 bits_of (k + 510) (omega arith) split.0)))
    where
      z : ℤ
      z = sub_ℕ k 543

      scaled : n * up z * 2 ^ 1074 ≡ n * 2 ^ 21 * 2 ^ (k + 510) * down z
      scaled = shifted n (up z) (down z) 543 531 1074 k 21 (k + 510) (sub_value n k 543) refl (omega arith)

-- ---- from * r * 2 ^ (k - 543), between two estimates of r

module _ (s : Bool) (m : ℕ) (g : ℤ) (k : ℕ) (K : k < 768) where
  abbrev from : Float
  from = fin s m g

  abbrev z : ℤ
  z = sub_ℕ k 543

  abbrev bits : ℕ → ℕ
  bits n = product from ((k + 510) * 2 ^ 52 + n * 2 ^ 21)

  exact : (n : ℕ) → 2 ^ 31 ≤ n → n < 2 ^ 32 → mul binary64 from (of_bits binary64 ((k + 510) * 2 ^ 52 + n * 2 ^ 21)) ≡ mul binary64 from (fin false n z)
  unfolding mul
  exact n l h = mul_same binary64 from (of_bits binary64 ((k + 510) * 2 ^ 52 + n * 2 ^ 21)) false n z (factor_value k n K l h)

  module _ (lo r hi : ℕ) (L : 2 ^ 31 ≤ lo) (H : hi < 2 ^ 32) (lr : lo ≤ r) (rh : r ≤ hi) where
    growth : 899 * 2 ^ 52 ≤ bits hi % 2 ^ 63 → bits hi % 2 ^ 63 < 1149 * 2 ^ 52 → ((bits lo + 2 ^ 28) % 2 ^ 29 ≡ 0 → ⊥) → (bits lo + 2 ^ 28) / 2 ^ 29 ≡ (bits hi + 2 ^ 28) / 2 ^ 29
        → of_bits binary64 (plain_cut (bits hi)) ≡ narrowed (mul binary64 from (fin false r z))
    unfolding mul
    growth a b c d =
        let eh = ap (to_bits binary64) (exact hi (omega arith) H) in
        let el = ap (to_bits binary64) (exact lo L (omega arith)) in
        let up_to : (x y : ℕ) → x ≤ y → m * up g * (x * up z) ≤ m * up g * (y * up z) = λ x y h. mul-le-mul_left (m * up g) (mul-le-mul_right (up z) h) in
        ap (λ (n : ℕ). of_bits binary64 (plain_cut n)) eh
        ∙ between (unlike s false) (m * up g * (lo * up z)) (m * up g * (r * up z)) (m * up g * (hi * up z)) (down g * down z) (mul-pos (down_pos g) (down_pos z)) (up_to lo r lr) (up_to r hi rh)
        (subst (λ (n : ℕ). 899 * 2 ^ 52 ≤ n % 2 ^ 63) eh a) (subst (λ (n : ℕ). n % 2 ^ 63 < 1149 * 2 ^ 52) eh b)
        (subst (λ (n : ℕ). (n + 2 ^ 28) % 2 ^ 29 ≡ 0 → ⊥) el c)
        (subst (λ (n : ℕ). (to_bits binary64 (round binary64 (unlike s false) (m * up g * (lo * up z)) (down g * down z)) + 2 ^ 28) / 2 ^ 29 ≡ (n + 2 ^ 28) / 2 ^ 29) eh
        (subst (λ (n : ℕ). (n + 2 ^ 28) / 2 ^ 29 ≡ (bits hi + 2 ^ 28) / 2 ^ 29) el d))

-- ---- as the code finds it

-- the pattern of the factor with e for the falling power
abbrev pub over : ℕ → ℕ → ℕ
over h e = (h / parts + 510) * 2 ^ 52 + e * 2 ^ 21

under : (h e : ℕ) → 2147483668 ≤ e → over h e - 41943040 ≡ (h / parts + 510) * 2 ^ 52 + (e - 20) * 2 ^ 21
under h e l = omega arith

module _ (x : Float) (h : ℕ) (t : Lifted x h) (l : 213 * parts ≤ h) (u : h < 768 * parts) (n : h % parts ≡ 0 → ⊥) where
  factor_is : factor_of x ≡ fin false (falling (parts - h % parts)) (sub_ℕ (h / parts) 543)
  factor_is = factor_lifted x h t ∙ power_at h l u (pos_of_ne-zero n)

  pub by_estimate : (from : Float) (e r : ℕ) → T (finite from) → falling (parts - h % parts) ≤ e → e ≤ falling (parts - h % parts) + 20 → 2147483668 ≤ e → e < 4294967296 → Cell from (over h e) r
      → of_bits binary64 r ≡ narrowed (mul binary64 from (factor_of x))
  by_estimate nan e r f a b p q c = absurd f
  by_estimate (inf i) e r f a b p q c = absurd f
  by_estimate (fin i m g) e r f a b p q c =
      let o = ap (product (fin i m g)) (under h e p) in
      ap (of_bits binary64) c.cut
      ∙ growth i m g (h / parts) (omega arith) (e - 20) (falling (parts - h % parts)) e (omega arith) q (omega arith) a c.lo c.hi
      (subst (λ (y : ℕ). (y + 2 ^ 28) % 2 ^ 29 ≡ 0 → ⊥) o c.apart) (subst (λ (y : ℕ). (y + 2 ^ 28) / 2 ^ 29 ≡ (product (fin i m g) (over h e) + 2 ^ 28) / 2 ^ 29) o c.same)
      ∙ ap (λ (y : Float). narrowed (mul binary64 (fin i m g) y)) (sym factor_is)

  pub by_itself : (from : Float) (d : ℕ) → T (finite from) → d ≡ falling (parts - h % parts) → 2 ^ 31 ≤ d → d < 2 ^ 32 → mul binary64 from (of_bits binary64 (over h d)) ≡ mul binary64 from (factor_of x)
  by_itself nan d f e p q = absurd f
  by_itself (inf i) d f e p q = absurd f
  by_itself (fin i m g) d f e p q =
      exact i m g (h / parts) (omega arith) d p q
      ∙ ap (λ (y : ℕ). mul binary64 (fin i m g) (fin false y (sub_ℕ (h / parts) 543))) e
      ∙ ap (mul binary64 (fin i m g)) (sym factor_is)

-- the pattern is that of a finite number
pub over_small : (h e : ℕ) → h < 768 * parts → e < 4294967296 → over h e ≤ 2046 * 2 ^ 52
over_small h e u q = omega arith

pub small_nan : (n : ℕ) → n ≤ 2046 * 2 ^ 52 → T (not (nan_bits binary64 n))
small_nan n h = nan_below n (omega arith)

pub cell_nan : (from : Float) (n r : ℕ) → Cell from n r → T (not (nan_bits binary64 r))
cell_nan from n r c =
    subst (λ (x : ℕ). T (not (nan_bits binary64 x))) (sym c.cut)
    (plain_nan (product from n) (to_bits-lt binary64 (mul binary64 from (of_bits binary64 n)) (mul-fits binary64 from (of_bits binary64 n))) (le_trans (lit≤ tt) c.lo) c.hi)
