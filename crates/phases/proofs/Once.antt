-- a * y + c of `f32`s in `f64`, where the sizes of a, y and c alone show that the sum is exact, and zero or in the range of `f32`'s normal numbers: nothing of the sum is left to test. Assumes nothing.
use mathlib.Core.Path.{◌≡◌, refl, sym, ap, ◌∙◌, subst}
use mathlib.Core.Logic.{◌⊎◌, inl, inr}
use Prim.Native.Nat.{ℕ, zero, suc, ◌+◌, ◌-◌, ◌*◌, ◌/◌, ◌%◌, ◌^◌, ◌≤◌, ◌<◌}
use native.Mathlib.Nat.{le_refl, le_trans, le_of_eq, le_of_lt, lt_of_lt_of_le, lt_of_le_of_lt, zero-mul, one-mul, mul-pos, mul_assoc, mul-le-mul_right, mul-le-mul_left, mul-lt-mul_of_pos_right, lt_of_mul-lt-mul_right, eq_of_mul-eq-mul_right, pow-succ'}
use native.Mathlib.Omega.{arith}
use mathlib.Core.Bool.{Bool, true, false, beq}
use lib.IntN.{pos}
use lib.Dec.{T, leb, lit<}
use lib.Pow.{pow-add, pow_pos, pow_mono}
use lib.Ieee.{Float, fin, Format, binary32, binary64, unlike, round, sum, add, mul, of_bits, to_bits, fits}
use lib.Ieee.Fits.{fits_widens}
use lib.Ieee.Bits.{of_bits-to_bits}
use lib.Ieee.Exact.{HasValue}
use lib.Ieee.Scale.{finite, round_same}
use Rattle.rules.specs.Numbers.{fused}
use Rattle.rounding_laws.proofs.Value.{digits, power, bits_value}
use Rattle.rounding_laws.proofs.Decode.{finite_field}
use Rattle.rounding_laws.proofs.Fuse.{rescale, add_value, fused_value}
use Rattle.rounding_laws.proofs.Sum.{sum_once}
use Rattle.rounding_laws.specs.Total.{total_sign, total_size}
use Rattle.rounding_laws.proofs.Pack.{Drops}
use Rattle.rounding_laws.proofs.Cut.{even_sum_law, size_law}
use Rattle.rounding_laws.proofs.Wide.{Parts, product_exact}
use Rattle.rounding_laws.proofs.Exact.{same_value_lem, pow_lt_back, field, total_multiple, product_multiple, third_multiple, gather}

-- ---- the exponent's field bounds the size
pub field_bound : (x : Float) → T (fits binary32 x) → T (finite x) → (P : Parts x) (e : ℕ) → field x ≤ e + 873 → P.m * 2 ^ P.j < 2 ^ e
field_bound x fit fine P e h =
    lt_of_mul-lt-mul_right (2 ^ 1074)
    (lt_of_le_of_lt (le_of_eq (same_value_lem x P.s (leb (2 ^ 63) b) (P.m * 2 ^ P.j) (2 ^ 149) (digits binary64 (field x) (b % 2 ^ 52) * 2 ^ power (field x)) (2 ^ 1074) P.value value))
    (lt_of_lt_of_le (mul-lt-mul_of_pos_right (size (field x) (b % 2 ^ 52) (omega arith)) (pow_pos 149))
    (le_trans (le_of_eq (sym (pow-add 2 (52 + field x) 149))) (le_trans (pow_mono (room (field x) e h)) (le_of_eq (pow-add 2 e 1074))))))
  where
    b : ℕ
    b = to_bits binary64 x

    back : of_bits binary64 b ≡ x
    back = of_bits-to_bits binary64 x (fits_widens x fit)

    small : field x < 2047
    small = let n : b % 2 ^ 63 / 2 ^ 52 ≡ 2047 → ⊥ = finite_field binary64 b (subst (λ (v : Float). T (finite v)) (sym back) fine) in omega arith

    value : HasValue x (leb (2 ^ 63) b) (digits binary64 (field x) (b % 2 ^ 52) * 2 ^ power (field x)) (2 ^ 1074)
    value = subst (λ (v : Float). HasValue v (leb (2 ^ 63) b) (digits binary64 (field x) (b % 2 ^ 52) * 2 ^ power (field x)) (2 ^ 1074)) back (bits_value binary64 b small)

    room : (f e : ℕ) → f ≤ e + 873 → 52 + f + 149 ≤ e + 1074
    room f e h = omega arith

    size : (f t : ℕ) → t < 2 ^ 52 → digits binary64 f t * 2 ^ power f < 2 ^ (52 + f)
    size zero t l = one t l
      where
        one : (t : ℕ) → t < 2 ^ 52 → t * 1 < 2 ^ 52
        one t l = omega arith
    size (suc f) t l =
        lt_of_lt_of_le (mul-lt-mul_of_pos_right (two t l) (pow_pos f)) (le_of_eq (sym (pow-add 2 53 f) ∙ ap (λ (y : ℕ). 2 ^ y) (step f)))
      where
        two : (t : ℕ) → t < 2 ^ 52 → 2 ^ 52 + t < 2 ^ 53
        two t l = omega arith

        step : (f : ℕ) → 53 + f ≡ 52 + suc f
        step f = omega arith

-- ---- zero
abbrev cut : ℕ → ℕ
cut n = n + 268435455 + n / 2 ^ 29 % 2 - (n + 268435455 + n / 2 ^ 29 % 2) % 2 ^ 29

zero_one : (f : Format) (s : Bool) → round f s 0 1 ≡ fin s 0 (pos 0)
unfolding round
zero_one binary32 s = refl
zero_one binary64 s = refl

zero_round : (f : Format) (s : Bool) (den : ℕ) → 0 < den → round f s 0 den ≡ fin s 0 (pos 0)
zero_round f s den h = round_same f s 0 den 0 1 h (lit< tt) (sym (zero-mul den)) ∙ zero_one f s

zero_bits : (s : Bool) → to_bits binary64 (fin s 0 (pos 0)) % 2 ^ 63 ≡ 0
unfolding to_bits
zero_bits true = refl
zero_bits false = refl

zero_cut : (s : Bool) → of_bits binary64 (cut (to_bits binary64 (fin s 0 (pos 0)))) ≡ fin s 0 (pos 0)
unfolding to_bits of_bits
zero_cut true = refl
zero_cut false = refl

-- ---- the law
size_most : (like : Bool) (a b : ℕ) → total_size like a b ≤ a + b
size_most true a b = le_refl (a + b)
size_most false a b = omega arith

abbrev pub InRange : ℕ → Type 0
InRange n = (n % 2 ^ 63 ≡ 0) ⊎ ((898 * 2 ^ 52 ≤ n % 2 ^ 63) × (n % 2 ^ 63 < 1149 * 2 ^ 52))

module _ (a y c : Float) (x : Parts a) (v : Parts y) (z : Parts c) (e : ℕ) (ba : x.m * 2 ^ x.j < 2 ^ e) (by : v.m * 2 ^ v.j < 2 ^ 150) (bc : z.m * 2 ^ z.j < 2 ^ e)
    (g1 : e + 874 ≤ x.j + v.j + 776) (g2 : (z.m * 2 ^ z.j ≡ 0) ⊎ (e + 874 ≤ z.j + 925)) (lo : 75 ≤ e) (hi : e ≤ 272) where
  abbrev S : Bool
  S = unlike x.s v.s

  abbrev A : ℕ
  A = x.m * 2 ^ x.j * (v.m * 2 ^ v.j)

  abbrev C : ℕ
  C = z.m * 2 ^ z.j * 2 ^ 149

  abbrev E : ℕ
  E = 2 ^ 149 * 2 ^ 149

  E_pos : 0 < E
  E_pos = mul-pos (pow_pos 149) (pow_pos 149)

  third_value : HasValue c z.s C E
  third_value = rescale c z.s (z.m * 2 ^ z.j) (2 ^ 149) C E (pow_pos 149) (mul_assoc (z.m * 2 ^ z.j) (2 ^ 149) (2 ^ 149)) z.value

  wide : add binary64 (mul binary64 a y) c ≡ sum binary64 S A z.s C E
  wide =
      add_value binary64 S z.s A C E E_pos (mul binary64 a y) c
      (product_exact x.s v.s x.m v.m x.j v.j x.short v.short x.reach v.reach a y x.value v.value)
      third_value

  narrow : fused binary32 a y c ≡ sum binary32 S A z.s C E
  narrow = fused_value binary32 x.s v.s z.s (x.m * 2 ^ x.j) (v.m * 2 ^ v.j) C (2 ^ 149) (2 ^ 149) (pow_pos 149) (pow_pos 149) a y c x.value v.value third_value

  third : (k : ℕ) → k ≤ e + 874 → (z.m * 2 ^ z.j ≡ 0) ⊎ (e + 874 ≤ z.j + 925) → (u : ℕ) × (C * 2 ^ 776 ≡ u * 2 ^ k)
  third k h (inl o) = (0, ap (λ (w : ℕ). w * 2 ^ 149 * 2 ^ 776) o ∙ sym (zero-mul (2 ^ k)))
  third k h (inr o) = (z.m * 2 ^ (z.j + 925 - k), third_multiple z.m z.j k (le_trans h o))

  -- the sum's sign and size
  abbrev like : Bool
  like = beq S z.s

  abbrev sign : Bool
  sign = total_sign S A z.s C

  abbrev num : ℕ
  num = total_size like A C

  multiple : (k : ℕ) → k ≤ e + 874 → (w : ℕ) × (num * 2 ^ 776 ≡ w * 2 ^ k)
  multiple k h =
      let t = third k h g2 in
      let u = x.m * v.m * 2 ^ (x.j + v.j + 776 - k) in
      (total_size like u t.0, total_multiple like A C (2 ^ 776) (2 ^ k) u t.0 (product_multiple x.m v.m x.j v.j k (le_trans h g1)) t.1)

  -- the sum is small
  below : num * 2 ^ 1074 < 2 ^ (52 + (e + 875)) * E
  below =
      lt_of_lt_of_le (mul-lt-mul_of_pos_right (lt_of_lt_of_le (lt_of_le_of_lt (size_most like A C) (twice A C (2 ^ (e + 150)) first second)) (le_of_eq (sym (pow-succ' 2 (e + 150))))) (pow_pos 1074))
      (le_of_eq (sym (pow-add 2 (suc (e + 150)) 1074) ∙ ap (λ (w : ℕ). 2 ^ w) (shift e) ∙ pow-add 2 (52 + (e + 875)) 298))
    where
      shift : (e : ℕ) → suc (e + 150) + 1074 ≡ 52 + (e + 875) + 298
      shift e = omega arith

      twice : (p q w : ℕ) → p < w → q < w → p + q < 2 * w
      twice p q w h k = omega arith

      first : A < 2 ^ (e + 150)
      first = lt_of_le_of_lt (mul-le-mul_left (x.m * 2 ^ x.j) (le_of_lt by)) (lt_of_lt_of_le (mul-lt-mul_of_pos_right ba (pow_pos 150)) (le_of_eq (sym (pow-add 2 e 150))))

      second : C < 2 ^ (e + 150)
      second = lt_of_lt_of_le (mul-lt-mul_of_pos_right bc (pow_pos 149)) (le_trans (le_of_eq (sym (pow-add 2 e 149))) (pow_mono {i = e + 149} {j = e + 150} (omega arith)))

  zero_case : num ≡ 0 → (f : Format) → sum f S A z.s C E ≡ fin sign 0 (pos 0)
  zero_case o f = sum_once f S A z.s C E ∙ ap (λ (w : ℕ). round f sign w E) o ∙ zero_round f sign E E_pos

  some : (w : ℕ) → num * 2 ^ 776 ≡ suc w * 2 ^ (e + 874) → 2 ^ 949 * E ≤ num * 2 ^ 1074
  some w h =
      le_trans (mul-le-mul_right E (le_trans (pow_mono {i = 949} {j = e + 874} (omega arith)) (le_trans (one (2 ^ (e + 874))) (le_of_eq (sym h)))))
      (le_of_eq (mul_assoc num (2 ^ 776) E))
    where
      one : (g : ℕ) → g ≤ suc w * g
      one g = le_trans (le_of_eq (sym (one-mul g))) (mul-le-mul_right g (omega arith))

  exact : (k : ℕ) → Drops 53 (num * 2 ^ 1074) E k → (w : ℕ) × (num * 2 ^ 1074 ≡ w * (E * 2 ^ k))
  exact k d = let m = multiple k (go d.1) in (m.0, gather num m.0 (2 ^ 776) E (2 ^ k) (2 ^ 1074) refl m.1)
    where
      go : (k ≡ 0) ⊎ (2 ^ (52 + k) * E ≤ num * 2 ^ 1074) → k ≤ e + 874
      go (inl o) = omega arith
      go (inr g) = let l : 52 + k < 52 + (e + 875) = pow_lt_back (52 + k) (52 + (e + 875)) (lt_of_mul-lt-mul_right E (lt_of_le_of_lt g below)) in omega arith

  abbrev whole_sum : Float
  whole_sum = add binary64 (mul binary64 a y) c

  n_is : to_bits binary64 whole_sum ≡ to_bits binary64 (round binary64 sign num E)
  n_is = ap (to_bits binary64) (wide ∙ sum_once binary64 S A z.s C E)

  pub once_law : InRange (to_bits binary64 whole_sum) × (of_bits binary64 (cut (to_bits binary64 whole_sum)) ≡ fused binary32 a y c)
  once_law = let m = multiple (e + 874) (le_refl (e + 874)) in last m.0 m.1
    where
      last : (w : ℕ) → num * 2 ^ 776 ≡ w * 2 ^ (e + 874) → InRange (to_bits binary64 whole_sum) × (of_bits binary64 (cut (to_bits binary64 whole_sum)) ≡ fused binary32 a y c)
      last zero h =
          let o : num ≡ 0 = eq_of_mul-eq-mul_right (2 ^ 776) (pow_pos 776) num 0 (h ∙ zero-mul (2 ^ (e + 874)) ∙ sym (zero-mul (2 ^ 776))) in
          let s : whole_sum ≡ fin sign 0 (pos 0) = wide ∙ zero_case o binary64 in (
            inl (ap (λ (f : Float). to_bits binary64 f % 2 ^ 63) s ∙ zero_bits sign),
            ap (λ (f : Float). of_bits binary64 (cut (to_bits binary64 f))) s ∙ zero_cut sign ∙ sym (zero_case o binary32) ∙ sym narrow,
          )
      last (suc w) h =
          let q = size_law sign num E (e + 875) E_pos below (some w h) (omega arith) in
          let q' = subst (λ (n : ℕ). (898 * 2 ^ 52 ≤ n % 2 ^ 63) × (n % 2 ^ 63 < 1149 * 2 ^ 52)) (sym n_is) q in (
            inr q',
            even_sum_law sign num E (to_bits binary64 whole_sum) E_pos n_is q'.0 q'.1 (λ k l d. exact k d) ∙ sym (sum_once binary32 S A z.s C E) ∙ sym narrow,
          )
