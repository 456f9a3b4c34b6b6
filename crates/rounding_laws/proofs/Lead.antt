-- A number shifted to the left so that its highest bit is at a place h. Assumes nothing.
use mathlib.Core.Path.{◌≡◌, refl, sym, ap, ◌∙◌, subst}
use mathlib.Core.Bool.{Bool}
use Prim.Native.Nat.{ℕ, suc, ◌+◌, ◌-◌, ◌*◌, ◌%◌, ◌^◌, ◌≤◌, ◌<◌}
use native.Mathlib.Nat.{le_trans, le_of_eq, lt_of_le_of_lt, lt_of_lt_of_le, mod-eq_of_lt, mul-le-mul_right, mul_assoc, mul_comm}
use native.Mathlib.Omega.{arith}
use lib.Pow.{pow-add, pow_pos, pow_mono, shl_lt}
use lib.Count.{count_leading_zeros, leading_top}
use lib.Ieee.{Format, round}
use lib.Ieee.Scale.{round_same}
use Rattle.rounding_laws.proofs.Powers.{pow_lt_back}

module _ (h c d : ℕ) (at : h + c ≡ 63) (D : 0 < d) (S : d < 2 ^ suc h) where
  abbrev z : ℕ
  z = count_leading_zeros 64 d - c

  wide : d < 2 ^ 64
  wide = lt_of_lt_of_le S (pow_mono (up_to h c at))
    where
      up_to : (h c : ℕ) → h + c ≡ 63 → suc h ≤ 64
      up_to h c e = omega arith

  pub lead_shift : (c ≤ count_leading_zeros 64 d) × (z ≤ h) × (2 ^ h ≤ d * 2 ^ z) × (d * 2 ^ z < 2 ^ suc h)
  lead_shift =
      let top = leading_top 64 d D wide in
      let j = top.0 in
      let j-lt : j < suc h = pow_lt_back j (suc h) (lt_of_le_of_lt top.2 S) in
      let e : count_leading_zeros 64 d + suc j ≡ 64 = top.1 in
      let sum : j + z ≡ h = omega arith in
      let sum' : suc j + z ≡ suc h = omega arith in (
        omega arith,
        omega arith,
        subst (λ (x : ℕ). 2 ^ x ≤ d * 2 ^ z) sum (le_trans (le_of_eq (pow-add 2 j z)) (mul-le-mul_right (2 ^ z) top.2)),
        subst (λ (x : ℕ). d * 2 ^ z < 2 ^ x) sum' (shl_lt (suc j) z top.3),
      )

  pub lead_kept : d * 2 ^ z % 2 ^ 64 ≡ d * 2 ^ z
  lead_kept = mod-eq_of_lt (lt_of_lt_of_le lead_shift.3 (pow_mono (up_to h c at)))
    where
      up_to : (h c : ℕ) → h + c ≡ 63 → suc h ≤ 64
      up_to h c e = omega arith

-- the shift, taken back by the exponent
pub shifted_back : (d z e k : ℕ) → z ≤ e + k → d * 2 ^ z * 2 ^ (e + k - z) ≡ d * 2 ^ e * 2 ^ k
shifted_back d z e k h =
    mul_assoc d (2 ^ z) (2 ^ (e + k - z)) ∙ ap (λ (x : ℕ). d * x) (sym (pow-add 2 z (e + k - z)) ∙ ap (λ (x : ℕ). 2 ^ x) (back z (e + k) h) ∙ pow-add 2 e k) ∙ sym (mul_assoc d (2 ^ e) (2 ^ k))
  where
    back : (z e : ℕ) → z ≤ e → z + (e - z) ≡ e
    back z e h = omega arith

-- the highest bit to the highest place
pub lead_top : (d : ℕ) → 0 < d → d < 2 ^ 64 → (count_leading_zeros 64 d ≤ 63) × (2 ^ 63 ≤ d * 2 ^ count_leading_zeros 64 d) × (d * 2 ^ count_leading_zeros 64 d < 2 ^ 64)
lead_top d D S = let w = lead_shift 63 0 d refl D S in subst (λ (z : ℕ). (z ≤ 63) × (2 ^ 63 ≤ d * 2 ^ z) × (d * 2 ^ z < 2 ^ 64)) (none (count_leading_zeros 64 d)) (w.1, w.2, w.3)
  where
    none : (z : ℕ) → z - 0 ≡ z
    none z = omega arith

-- d * 2 ^ e / 2 ^ G by the shifted number, of which nothing is shifted out
pub lead_round : (f : Format) (s : Bool) (d e K G : ℕ) → 0 < d → d < 2 ^ 64 → 63 ≤ K → round f s (d * 2 ^ count_leading_zeros 64 d % 2 ^ 64 * 2 ^ (e + K - count_leading_zeros 64 d)) (2 ^ (G + K)) ≡ round f s (d * 2 ^ e) (2 ^ G)
lead_round f s d e K G D S h =
    ap (λ (x : ℕ). round f s (x * 2 ^ (e + K - count_leading_zeros 64 d)) (2 ^ (G + K))) (mod-eq_of_lt (lead_top d D S).2)
    ∙ round_same f s (d * 2 ^ count_leading_zeros 64 d * 2 ^ (e + K - count_leading_zeros 64 d)) (2 ^ (G + K)) (d * 2 ^ e) (2 ^ G) (pow_pos (G + K)) (pow_pos G)
    (ap (λ (x : ℕ). x * 2 ^ G) (shifted_back d (count_leading_zeros 64 d) e K (omega (arith, (lead_top d D S).0))) ∙ mul_assoc (d * 2 ^ e) (2 ^ K) (2 ^ G) ∙ ap (λ (x : ℕ). d * 2 ^ e * x) (mul_comm (2 ^ K) (2 ^ G) ∙ sym (pow-add 2 G K)))
