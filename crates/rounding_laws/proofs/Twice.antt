-- A fraction rounded to an `f64`, and that to an `f32`: the same as rounded to an `f32` at once, unless the `f64` lies halfway between two values of `f32`, or if it is exact.
-- With the bit pattern that code makes of it. Assumes nothing.
use mathlib.Core.Path.{◌≡◌, refl, sym, ap, ◌∙◌, subst}
use mathlib.Core.Logic.{◌⊎◌, inl, inr}
use Prim.Native.Nat.{ℕ, suc, ◌+◌, ◌*◌, ◌/◌, ◌%◌, ◌^◌, ◌≤◌, ◌<◌, compare, Ordering}
use native.Mathlib.Nat.{le_of_eq, lt_of_le_of_lt, mul-pos, mul_comm, mul_assoc, mul_left_comm, mul_right_comm, mul-le-mul_right, lt_of_mul-lt-mul_right, le_of_mul-le-mul_right, add-mul, one-mul}
use native.Mathlib.Omega.{arith}
use mathlib.Core.Bool.{Bool, cond}
use lib.Dec.{lit<}
use lib.Pow.{pow-add, pow_pos, pow-lt}
use lib.Ieee.{Float, binary32, binary64, round, units, nearest, of_bits}
use lib.Ieee.Fits.{round-fits, fits_widens}
use lib.Ieee.Bits.{of_bits-fits}
use lib.Ieee.Exact.{HasValue, units_val}
use lib.Ieee.Nearest.{closest, closest_same, closest_mono}
use Rattle.rounding_laws.proofs.Closest.{Cmp, cmp}
use Rattle.rounding_laws.proofs.Value.{value_unique}
use Rattle.rounding_laws.proofs.Pack.{Drops, Stands, stands, round_at}
use Rattle.rounding_laws.proofs.Fuse.{rescale}
use Rattle.rounding_laws.proofs.Sticky.{closest_between, closest_within}

-- ---- rounding twice, on whole numbers
strict : (q Q : ℕ) → q * 2 ^ 29 * 2 ≤ Q * 2 + 2 ^ 29 → Q * 2 ≤ q * 2 ^ 29 * 2 + 2 ^ 29 → (Q % 2 ^ 29 ≡ 2 ^ 28 → ⊥) → (q * 2 ^ 29 + 1 ≤ Q + 2 ^ 28) × (Q + 1 ≤ q * 2 ^ 29 + 2 ^ 28)
strict q Q h k n = go (compare (Q % 2 ^ 29) (2 ^ 28)) (cmp (Q % 2 ^ 29) (2 ^ 28)) (compare q (Q / 2 ^ 29)) (cmp q (Q / 2 ^ 29))
  where
    go : (o : Ordering) → Cmp o (Q % 2 ^ 29) (2 ^ 28) → (p : Ordering) → Cmp p q (Q / 2 ^ 29) → (q * 2 ^ 29 + 1 ≤ Q + 2 ^ 28) × (Q + 1 ≤ q * 2 ^ 29 + 2 ^ 28)
    go Ordering.lt c Ordering.lt d = (omega arith, omega arith)
    go Ordering.lt c Ordering.eq d = (omega arith, omega arith)
    go Ordering.lt c Ordering.gt d = (omega arith, omega arith)
    go Ordering.eq c p d = absurd (n c)
    go Ordering.gt c Ordering.lt d = (omega arith, omega arith)
    go Ordering.gt c Ordering.eq d = (omega arith, omega arith)
    go Ordering.gt c Ordering.gt d =
        let l : q < Q / 2 ^ 29 + 2 = omega arith in
        (omega arith, omega arith)

pub twice : (a b : ℕ) → 0 < b → (closest a b % 2 ^ 29 ≡ 2 ^ 28 → ⊥) → closest a (b * 2 ^ 29) ≡ closest (closest a b) (2 ^ 29)
twice a b B n = go (closest a b) (closest_within a b B) n
  where
    go : (Q : ℕ) → (Q * b * 2 ≤ a * 2 + b) × (a * 2 ≤ Q * b * 2 + b) → (Q % 2 ^ 29 ≡ 2 ^ 28 → ⊥) → closest a (b * 2 ^ 29) ≡ closest Q (2 ^ 29)
    go Q w n = last (closest Q (2 ^ 29)) (strict (closest Q (2 ^ 29)) Q v.0 v.1 n)
      where
        v : (closest Q (2 ^ 29) * 2 ^ 29 * 2 ≤ Q * 2 + 2 ^ 29) × (Q * 2 ≤ closest Q (2 ^ 29) * 2 ^ 29 * 2 + 2 ^ 29)
        v = closest_within Q (2 ^ 29) (lit< tt)

        last : (q : ℕ) → (q * 2 ^ 29 + 1 ≤ Q + 2 ^ 28) × (Q + 1 ≤ q * 2 ^ 29 + 2 ^ 28) → closest a (b * 2 ^ 29) ≡ q
        last q e =
            let m = mul-le-mul_right b e.0 in
            let k = mul-le-mul_right b e.1 in
            let x = add-mul (q * 2 ^ 29) 1 b in
            let y = add-mul Q (2 ^ 28) b in
            let z = add-mul Q 1 b in
            let t = add-mul (q * 2 ^ 29) (2 ^ 28) b in
            let o = one-mul b in
            let p : q * (b * 2 ^ 29) ≡ q * 2 ^ 29 * b = ap (λ (x : ℕ). q * x) (mul_comm b (2 ^ 29)) ∙ sym (mul_assoc q (2 ^ 29) b) in
            closest_between a (b * 2 ^ 29) q (mul-pos B (lit< tt)) (omega arith) (omega arith)

pub exactly : (a b Q : ℕ) → 0 < b → a ≡ Q * b → closest a (b * 2 ^ 29) ≡ closest Q (2 ^ 29)
exactly a b Q B e = closest_same a (b * 2 ^ 29) Q (2 ^ 29) (mul-pos B (lit< tt)) (lit< tt) (ap (λ (x : ℕ). x * 2 ^ 29) e ∙ mul_assoc Q b (2 ^ 29))

-- ---- the kept number, by sums and a cut
pub plain_cut_lem : (Q : ℕ) → ((Q + 2 ^ 28) % 2 ^ 29 ≡ 0 → ⊥) → closest Q (2 ^ 29) ≡ (Q + 2 ^ 28) / 2 ^ 29
plain_cut_lem Q n = closest_between Q (2 ^ 29) ((Q + 2 ^ 28) / 2 ^ 29) (lit< tt) (omega arith) (omega arith)

pub even_cut_lem : (Q : ℕ) → closest Q (2 ^ 29) ≡ (Q + 268435455 + Q / 2 ^ 29 % 2) / 2 ^ 29
even_cut_lem Q = go (compare (Q % 2 ^ 29 * 2) (2 ^ 29)) (cmp (Q % 2 ^ 29 * 2) (2 ^ 29))
  where
    go : (o : Ordering) → Cmp o (Q % 2 ^ 29 * 2) (2 ^ 29) → nearest (Q / 2 ^ 29) o ≡ (Q + 268435455 + Q / 2 ^ 29 % 2) / 2 ^ 29
    go Ordering.lt l = omega arith
    go Ordering.eq l = omega arith
    go Ordering.gt l = omega arith

-- ---- the same fraction in units of either format
cross : (num den a b c d e : ℕ) → a * (b * c) ≡ d * e → num * a * (den * b * c) ≡ num * d * (den * e)
cross num den a b c d e h = simp (mul_assoc, mul_comm, mul_left_comm) (simp (mul_assoc, mul_comm, mul_left_comm) at (ap (λ (x : ℕ). num * den * x) h))

module _ (num den k : ℕ) where
  up_num : num * 2 ^ 1074 ≡ num * 2 ^ 149 * 2 ^ 925
  up_num = ap (λ (x : ℕ). num * x) (pow-add 2 149 925) ∙ sym (mul_assoc num (2 ^ 149) (2 ^ 925))

  up_pow : (i j : ℕ) → i ≡ j + 29 → 2 ^ (i + (k + 896)) * den ≡ 2 ^ (j + k) * den * 2 ^ 925
  up_pow i j e = ap (λ (x : ℕ). 2 ^ x * den) (shift i j k e) ∙ ap (λ (x : ℕ). x * den) (pow-add 2 (j + k) 925) ∙ mul_right_comm (2 ^ (j + k)) (2 ^ 925) den
    where
      shift : (i j k : ℕ) → i ≡ j + 29 → i + (k + 896) ≡ j + k + 925
      shift i j k e = omega arith

  narrower : Drops 53 (num * 2 ^ 1074) den (k + 896) → Drops 24 (num * 2 ^ 149) den k
  narrower h = (
    lt_of_mul-lt-mul_right (2 ^ 925) (subst (λ (x : ℕ). x < 2 ^ (24 + k) * den * 2 ^ 925) up_num (subst (λ (x : ℕ). num * 2 ^ 1074 < x) (up_pow 53 24 refl) h.0)),
    inr (go h.1),
  )
    where
      never : (k : ℕ) → k + 896 ≡ 0 → ⊥
      never k e = omega arith

      go : (k + 896 ≡ 0) ⊎ (2 ^ (52 + (k + 896)) * den ≤ num * 2 ^ 1074) → 2 ^ (23 + k) * den ≤ num * 2 ^ 149
      go (inl z) = absurd (never k z)
      go (inr g) = le_of_mul-le-mul_right (subst (λ (x : ℕ). 2 ^ (23 + k) * den * 2 ^ 925 ≤ x) up_num (subst (λ (x : ℕ). x ≤ num * 2 ^ 1074) (up_pow 52 23 refl) g)) (pow_pos 925)

  same_kept : 0 < den → closest (num * 2 ^ 149) (den * 2 ^ k) ≡ closest (num * 2 ^ 1074) (den * 2 ^ (k + 896) * 2 ^ 29)
  same_kept D =
      closest_same (num * 2 ^ 149) (den * 2 ^ k) (num * 2 ^ 1074) (den * 2 ^ (k + 896) * 2 ^ 29) (mul-pos D (pow_pos k)) (mul-pos (mul-pos D (pow_pos (k + 896))) (lit< tt))
      (cross num den (2 ^ 149) (2 ^ (k + 896)) (2 ^ 29) (2 ^ 1074) (2 ^ k)
      (ap (λ (x : ℕ). 2 ^ 149 * x) (sym (pow-add 2 (k + 896) 29)) ∙ sym (pow-add 2 149 (k + 896 + 29)) ∙ ap (λ (x : ℕ). 2 ^ x) (shift k) ∙ pow-add 2 1074 k))
    where
      shift : (k : ℕ) → 149 + (k + 896 + 29) ≡ 1074 + k
      shift k = omega arith

-- ---- the law: the pattern, as an `f64`, is what the fraction rounds to as an `f32`
module _ (s : Bool) (num den k Q : ℕ) (D : 0 < den) where
  pub twice_round : Drops 53 (num * 2 ^ 1074) den (k + 896) → k < 253 → 2 ^ 52 ≤ Q → Q ≤ 2 ^ 53
      → closest (num * 2 ^ 1074) (den * 2 ^ (k + 896) * 2 ^ 29) ≡ closest Q (2 ^ 29)
      → of_bits binary64 (cond s (2 ^ 63) 0 + ((k + 896) * 2 ^ 52 + closest Q (2 ^ 29) * 2 ^ 29)) ≡ round binary32 s num den
  twice_round h K lo hi e =
      go (stands binary64 s (k + 896) (q * 2 ^ 29) (in_range k K) (high q q_hi) (inr (big q q_lo)))
    where
      q : ℕ
      q = closest Q (2 ^ 29)

      q_lo : 2 ^ 23 ≤ q
      q_lo = closest_mono (2 ^ 52) (2 ^ 29) Q (2 ^ 29) (lit< tt) (lit< tt) (mul-le-mul_right (2 ^ 29) lo)

      q_hi : q ≤ 2 ^ 24
      q_hi = closest_mono Q (2 ^ 29) (2 ^ 53) (2 ^ 29) (lit< tt) (lit< tt) (mul-le-mul_right (2 ^ 29) hi)

      in_range : (k : ℕ) → k < 253 → suc (k + 896) < 2047
      in_range k K = omega arith

      high : (q : ℕ) → q ≤ 2 ^ 24 → q * 2 ^ 29 ≤ 2 * 2 ^ 52
      high q h = omega arith

      big : (q : ℕ) → 2 ^ 23 ≤ q → 2 ^ 52 ≤ q * 2 ^ 29
      big q h = omega arith

      is : round binary32 s num den ≡ units binary32 s q k
      is = round_at binary32 s num den k D (narrower num den k h) ∙ ap (λ (x : ℕ). units binary32 s x k) (same_kept num den k D ∙ e)

      under : q * 2 ^ k < 2 ^ 277
      under = lt_of_le_of_lt (mul-le-mul_right (2 ^ k) q_hi) (lt_of_le_of_lt (le_of_eq (sym (pow-add 2 24 k))) (pow-lt (room k K)))
        where
          room : (k : ℕ) → k < 253 → 24 + k < 277
          room k K = omega arith

      value : HasValue (round binary32 s num den) s (q * 2 ^ 29 * 2 ^ (k + 896)) (2 ^ 1074)
      value =
          rescale (round binary32 s num den) s (q * 2 ^ k) (2 ^ 149) (q * 2 ^ 29 * 2 ^ (k + 896)) (2 ^ 1074) (pow_pos 149) scaled
          (subst (λ (x : Float). HasValue x s (q * 2 ^ k) (2 ^ 149)) (sym is) (units_val binary32 s q k under))
        where
          shift : (k : ℕ) → 29 + (k + 896) + 149 ≡ k + 1074
          shift k = omega arith

          scaled : q * 2 ^ 29 * 2 ^ (k + 896) * 2 ^ 149 ≡ q * 2 ^ k * 2 ^ 1074
          scaled =
              ap (λ (x : ℕ). x * 2 ^ 149) (mul_assoc q (2 ^ 29) (2 ^ (k + 896)) ∙ ap (λ (x : ℕ). q * x) (sym (pow-add 2 29 (k + 896))))
              ∙ mul_assoc q (2 ^ (29 + (k + 896))) (2 ^ 149)
              ∙ ap (λ (x : ℕ). q * x) (sym (pow-add 2 (29 + (k + 896)) 149) ∙ ap (λ (x : ℕ). 2 ^ x) (shift k) ∙ pow-add 2 k 1074)
              ∙ sym (mul_assoc q (2 ^ k) (2 ^ 1074))

      go : Stands binary64 s (k + 896) (q * 2 ^ 29) → of_bits binary64 (cond s (2 ^ 63) 0 + ((k + 896) * 2 ^ 52 + q * 2 ^ 29)) ≡ round binary32 s num den
      go (inl v) =
          let n = cond s (2 ^ 63) 0 + ((k + 896) * 2 ^ 52 + q * 2 ^ 29) in
          value_unique binary64 (of_bits binary64 n) (round binary32 s num den) s (q * 2 ^ 29 * 2 ^ (k + 896)) (2 ^ 1074) (of_bits-fits binary64 n) (fits_widens (round binary32 s num den) (round-fits binary32 s num den)) (pow_pos 1074) v value
      go (inr w) = absurd (never k K w.2)
        where
          never : (k : ℕ) → k < 253 → suc (suc (k + 896)) ≡ 2047 → ⊥
          never k K e = omega arith
