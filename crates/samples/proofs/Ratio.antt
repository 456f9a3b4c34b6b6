-- A ratio's L by the pattern that it has as an f64: there every f32 but 0 has all its digits, so that the field of the exponent is the place of the first one and the digits behind it need no shift. Assumes nothing.
use Rattle.std.proofs.Common.{◌≡◌, ℕ, zero, suc, ◌+◌, ◌-◌, ◌*◌, ◌/◌, ◌%◌, ◌^◌, ◌<◌, ◌≤◌, Bool, true, false, cond, ◌&&◌, T, eqb, ltb, leb, ℤ, pos, negsuc, ◌+ℤ◌, ◌*ℤ◌, sym, refl, ap, ◌∙◌, subst, true≢false, le_trans, mul-le-mul_right, zero-lt-suc, mul_assoc, le_antisymm, lt_of_mul-lt-mul_right, mul-lt-mul_of_pos_right, one-mul, lt_of_not-le, mul-one, mul_right_comm, not-le_of_lt, mul-div_cancel, arith, ltb→lt, leb→le, pow_pos, pow_mono, pow-add, le-leb}
use mathlib.Core.Bool.{false≢true}
use lib.IntN.{sub_ℕ}
use lib.Pow.{pow-lt}
use lib.Ieee.{Float, nan, inf, fin, binary32, binary64, up, down, size, fits, to_bits, eq}
use lib.Ieee.Fits.{and_l, and_r, down_pos}
use lib.Ieee.Digits.{size-lt, size_reaches, size-le}
use Rattle.rules.specs.Numbers.{plus_zero, is_finite, magnitude}
use Rattle.rules.specs.Kernels.{parts, log_from, log}
use Rattle.rules.specs.Samples.{ratio_log}
use Rattle.phases.proofs.Less.{pos_sub, sub_same, sub_more}
use Rattle.floats.proofs.Compared.{zero_is, magnitude_none}

-- ---- m * 2 ^ e in units of 2 ^ -1074: m * 2 ^ i

record Units (e : ℤ) (i : ℕ) : Type 0 where
  unit : 2 ^ i * down e ≡ up e * 2 ^ 1074
  least : 925 ≤ i
  plus : (c : ℕ) → e +ℤ pos c ≡ sub_ℕ (i + c) 1074

units : (e : ℤ) → down e ≤ 2 ^ 149 → (i : ℕ) × Units e i
units (pos a) h = (
  a + 1074,
  record {
    unit = rw (pow-add 2 a 1074) (mul-one (2 ^ a * 2 ^ 1074));
    least = omega arith;
    plus = λ c. let k : a + c ≡ a + 1074 + c - 1074 = omega arith in ap pos k ∙ sym (pos_sub (a + 1074 + c) 1074 (omega arith));
  },
)
units (negsuc a) h =
    let l : a < 149 = few a h in
    let k : 1073 - a + suc a ≡ 1074 = omega arith in (
      1073 - a,
      record {
        unit = sym (pow-add 2 (1073 - a) (suc a)) ∙ ap (λ (x : ℕ). 2 ^ x) k ∙ sym (one-mul (2 ^ 1074));
        least = omega arith;
        plus = λ c. sub_same c (suc a) (1073 - a + c) 1074 (omega arith);
      },
    )
  where
    few : (a : ℕ) → 2 ^ suc a ≤ 2 ^ 149 → a < 149
    few a h = lt_of_not-le (λ (g : 149 ≤ a). not-le_of_lt (pow-lt {i = 149} {j = suc a} (omega arith)) h)

-- ---- digits

size_is : (n t : ℕ) → 2 ^ t ≤ n → n < 2 ^ suc t → size n ≡ suc t
size_is n t l h = le_antisymm (size-le n (suc t) h) (lt_of_not-le (λ (g : size n ≤ t). not-le_of_lt (size-lt n) (le_trans (pow_mono g) l)))

module _ (m : ℕ) (p : 0 < m) where
  some : 0 < size m
  some = lt_of_not-le (λ (g : size m ≤ 0). not-le_of_lt (size-lt m) (le_trans (pow_mono g) p))

  first : 2 ^ (size m - 1) ≤ m
  first = size_reaches m (size m - 1) (omega (arith, some))

  up_to : suc (size m - 1) ≡ size m
  up_to = omega (arith, some)

  shifted_size : (i : ℕ) → size (m * 2 ^ i) ≡ size m + i
  shifted_size i =
      let e : suc (size m - 1 + i) ≡ size m + i = omega (arith, some) in
      size_is (m * 2 ^ i) (size m - 1 + i)
      (rw (pow-add 2 (size m - 1) i) (mul-le-mul_right (2 ^ i) first))
      (rw (e, pow-add 2 (size m) i) (mul-lt-mul_of_pos_right (size-lt m) (pow_pos i)))
      ∙ e

-- ---- the pattern

module _ (s : Bool) (m' : ℕ) (e : ℤ) (t : T (fits binary32 (fin s (suc m') e))) where
  abbrev m : ℕ
  m = suc m'

  abbrev d : ℕ
  d = size m

  abbrev b : ℕ
  b = to_bits binary64 (fin s m e)

  record Fit : Type 0 where
    short : m < 2 ^ 24
    grid : down e ≤ 2 ^ 149
    reach : m * up e < 2 ^ 128 * down e

  fit : Fit
  unfolding fits
  fit =
      let x = eqb (m % 2) 1 in
      let y = ltb m (2 ^ 24) in
      let z = leb (down e) (2 ^ 149) in
      let w = ltb (m * up e) (2 ^ 128 * down e) in
      record {
        short = ltb→lt m (2 ^ 24) (and_r x y (and_l (x && y) z (and_l (x && y && z) w t)));
        grid = leb→le (down e) (2 ^ 149) (and_r (x && y) z (and_l (x && y && z) w t));
        reach = ltb→lt (m * up e) (2 ^ 128 * down e) (and_r (x && y && z) w t);
      }

  abbrev i : ℕ
  i = (units e fit.grid).0

  abbrev U : Units e i
  U = (units e fit.grid).1

  few : d ≤ 24
  few = size-le m 24 fit.short

  above : 0 < d
  above = some m (zero-lt-suc m')

  -- m * 2 ^ e in those units
  whole : m * up e * 2 ^ 1074 ≡ m * 2 ^ i * down e
  whole = mul_assoc m (up e) (2 ^ 1074) ∙ ap (λ (x : ℕ). m * x) (sym U.unit) ∙ sym (mul_assoc m (2 ^ i) (down e))

  units_are : m * up e * 2 ^ 1074 / down e ≡ m * 2 ^ i
  units_are = ap (λ (x : ℕ). x / down e) whole ∙ mul-div_cancel (m * 2 ^ i) (down_pos e)

  reached : m * 2 ^ i < 2 ^ 1202
  reached =
      lt_of_mul-lt-mul_right (down e)
      (subst (λ (x : ℕ). x < 2 ^ 1202 * down e) whole
      (subst (λ (x : ℕ). m * up e * 2 ^ 1074 < x) (mul_right_comm (2 ^ 128) (down e) (2 ^ 1074) ∙ ap (λ (x : ℕ). x * down e) (sym (pow-add 2 128 1074)))
      (mul-lt-mul_of_pos_right fit.reach (pow_pos 1074))))

  small : d + i ≤ 1202
  small = subst (λ (x : ℕ). x ≤ 1202) (shifted_size m (zero-lt-suc m') i) (size-le (m * 2 ^ i) 1202 reached)

  -- what the format drops, and what it keeps
  abbrev k : ℕ
  k = d + i - 53

  kept : m * 2 ^ i / 2 ^ k ≡ m * 2 ^ (53 - d)
  kept =
      let x : 53 - d + k ≡ i = omega (arith, few, above, U.least) in
      ap (λ (j : ℕ). m * j / 2 ^ k) (ap (λ (j : ℕ). 2 ^ j) (sym x) ∙ pow-add 2 (53 - d) k) ∙ ap (λ (j : ℕ). j / 2 ^ k) (sym (mul_assoc m (2 ^ (53 - d)) (2 ^ k)))
      ∙ mul-div_cancel (m * 2 ^ (53 - d)) (pow_pos k)

  pattern : b ≡ cond s (2 ^ 63) 0 + k * 2 ^ 52 + m * 2 ^ (53 - d)
  unfolding to_bits
  pattern = rw (units_are, shifted_size m (zero-lt-suc m') i, kept)

  -- the digits, and those that a log is taken of
  split : m * 2 ^ (53 - d) ≡ m * 2 ^ (32 - d) * 2 ^ 21
  split =
      let x : 53 - d ≡ 32 - d + 21 = omega (arith, few) in
      ap (λ (j : ℕ). m * 2 ^ j) x ∙ ap (λ (j : ℕ). m * j) (pow-add 2 (32 - d) 21) ∙ sym (mul_assoc m (2 ^ (32 - d)) (2 ^ 21))

  low : 2 ^ 31 ≤ m * 2 ^ (32 - d)
  low =
      let x : 31 ≡ d - 1 + (32 - d) = omega (arith, few, above) in
      subst (λ (j : ℕ). j ≤ m * 2 ^ (32 - d)) (sym (ap (λ (j : ℕ). 2 ^ j) x ∙ pow-add 2 (d - 1) (32 - d))) (mul-le-mul_right (2 ^ (32 - d)) (first m (zero-lt-suc m')))

  high : m * 2 ^ (32 - d) < 2 ^ 32
  high =
      let x : d + (32 - d) ≡ 32 = omega (arith, few) in
      subst (λ (j : ℕ). m * 2 ^ (32 - d) < j) (sym (pow-add 2 d (32 - d)) ∙ ap (λ (j : ℕ). 2 ^ j) x) (mul-lt-mul_of_pos_right (size-lt m) (pow_pos (32 - d)))

  -- the fields of the pattern
  record Fields : Type 0 where
    place : b % 2 ^ 63 / 2 ^ 52 + 52 ≡ d + i
    digits : (b % 2 ^ 63 % 2 ^ 52 + 2 ^ 52) / 2 ^ 21 ≡ m * 2 ^ (32 - d)

  fields_of_lem : (s : Bool) (x n r : ℕ) → x ≡ cond s (2 ^ 63) 0 + n * 2 ^ 52 + r * 2 ^ 21 → n < 2000 → 2 ^ 31 ≤ r → r < 2 ^ 32
      → (x % 2 ^ 63 / 2 ^ 52 ≡ n + 1) × ((x % 2 ^ 63 % 2 ^ 52 + 2 ^ 52) / 2 ^ 21 ≡ r)
  fields_of_lem true x n r e h l g = (omega arith, omega arith)
  fields_of_lem false x n r e h l g = (omega arith, omega arith)

  fields : Fields
  fields =
      let f = fields_of_lem s b k (m * 2 ^ (32 - d)) (pattern ∙ ap (λ (j : ℕ). cond s (2 ^ 63) 0 + k * 2 ^ 52 + j) split) (omega (arith, small)) low high in
      record { place = omega (arith, f.0, few, above, U.least); digits = f.1 }

  -- and L by them
  log_by : sub_ℕ (b % 2 ^ 63 / 2 ^ 52 * parts + log ((b % 2 ^ 63 % 2 ^ 52 + 2 ^ 52) / 2 ^ 21)) (1023 * parts) ≡ ratio_log (fin s m e)
  unfolding ratio_log
  log_by =
      let l = log (m * 2 ^ (32 - d)) in
      rw (fields.digits, le-leb 1 d above)
      (sub_same (b % 2 ^ 63 / 2 ^ 52 * parts + l) (1023 * parts) ((i + (d - 1)) * parts + l) (1074 * parts) (omega (arith, fields.place, above))
      ∙ sym (ap (λ (z : ℤ). z *ℤ pos parts +ℤ pos l) (U.plus (d - 1)) ∙ sub_more (i + (d - 1)) 1074 l))

-- ---- of every ratio

pub log_of : (x : Float) → T (fits binary32 x) → is_finite x ≡ true → eq x plus_zero ≡ false
    → sub_ℕ (to_bits binary64 x % 2 ^ 63 / 2 ^ 52 * parts + log ((to_bits binary64 x % 2 ^ 63 % 2 ^ 52 + 2 ^ 52) / 2 ^ 21)) (1023 * parts) ≡ ratio_log x
unfolding is_finite
log_of nan t h n = absurd (false≢true h)
log_of (inf s) t h n = absurd (false≢true h)
log_of (fin s zero e) t h n = absurd (true≢false (sym (zero_is s e) ∙ n))
log_of (fin s (suc m) e) t h n = log_by s m e t

pub log_none : (x : Float) → is_finite x ≡ false → pos 0 ≡ ratio_log x
unfolding is_finite ratio_log
log_none nan h = refl
log_none (inf s) h = refl
log_none (fin s m e) h = absurd (true≢false h)

no_digits : (k : ℕ) → log_from k 0 0 ≡ 0
unfolding log_from
no_digits zero = refl
no_digits (suc k) = no_digits k

-- the sign does not matter
unsigned : (x : Float) → ratio_log (magnitude x) ≡ ratio_log x
unfolding ratio_log magnitude
unsigned nan = refl
unsigned (inf s) = refl
unsigned (fin s m e) = refl

pub log_zero : (x : Float) → T (fits binary32 x) → eq x plus_zero ≡ true → negsuc 16777215 ≡ ratio_log x
unfolding ratio_log log size
log_zero x t h = ap (λ (l : ℕ). negsuc 16777215 +ℤ pos l) (sym (no_digits 24)) ∙ ap ratio_log (magnitude_none x t h) ∙ unsigned x
