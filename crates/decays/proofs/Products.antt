-- Where the product of a number of middle size and a factor of such size lies, and that a smaller factor gives no larger one. Assumes nothing.
use mathlib.Core.Path.{◌≡◌, refl, sym, ap, ◌∙◌, subst}
use mathlib.Core.Logic.{◌⊎◌, inl, inr, ⊎_elim}
use mathlib.Core.Bool.{Bool, true, false, cond, not, ◌&&◌}
use Prim.Native.Nat.{ℕ, suc, ◌+◌, ◌-◌, ◌*◌, ◌/◌, ◌%◌, ◌^◌, ◌≤◌, ◌<◌}
use native.Mathlib.Nat.{le_trans, le_of_eq, lt_of_lt_of_le, lt_of_le_of_lt, lt_of_mul-lt-mul_right, mul-pos, eq-or-lt_of_le, mul-le-mul_left, mul-le-mul_right, mod-eq_of_lt}
use native.Mathlib.Omega.{arith}
use borrow.Author.Tests.{lt-leb}
use lib.Dec.{T, leb, lit<, lit≤}
use lib.Pow.{pow-add, pow_pos, pow_mono, pow-lt}
use lib.Ieee.{Float, nan, inf, fin, binary32, binary64, up, down, unlike, round, mul, of_bits, to_bits, nan_bits, is_nan, fits}
use lib.Ieee.Fits.{down_pos, mul-fits}
use lib.Ieee.Bits.{to_bits-lt, of_bits-to_bits, to_bits-of_bits, of_bits-fits, nan_bits_is}
use lib.Ieee.Exact.{HasValue}
use lib.Ieee.Scale.{finite}
use lib.Ieee.Nearest.{closest}
use Rattle.rules.specs.Numbers.{narrowed}
use Rattle.rounding_laws.specs.Cut.{plain_cut, even_cut}
use Rattle.rounding_laws.proofs.Pack.{Drops}
use Rattle.rounding_laws.proofs.Powers.{or_less, pow_lt_back}
use Rattle.rounding_laws.proofs.Pattern.{own, own_drops, most_own, least_own, over, reads_own}
use Rattle.rounding_laws.proofs.Decode.{normal_value}
use Rattle.rounding_laws.proofs.Fuse.{mul_value}
use Rattle.rounding_laws.proofs.Cut.{plain_nan, even_law, even_nan, narrowed_fits, cast_ok}
use Rattle.decays.specs.Cell.{Middle, product}
use Rattle.decays.proofs.Between.{bits_less}

-- ---- the value of a pattern in the range of normal numbers, in units of 2 ^ -1074

abbrev units : ℕ → ℕ
units b = (2 ^ 52 + b % 2 ^ 52) * 2 ^ (b % 2 ^ 63 / 2 ^ 52 - 1)

units_value : (b : ℕ) → 2 ^ 52 ≤ b % 2 ^ 63 → b % 2 ^ 63 < 2047 * 2 ^ 52 → HasValue (of_bits binary64 b) (leb (2 ^ 63) b) (units b) (2 ^ 1074)
units_value b l h = normal_value binary64 b (b % 2 ^ 63 / 2 ^ 52 - 1) (omega arith) (omega arith)

-- the same for a pattern without a sign
plain_value : (n : ℕ) → 2 ^ 52 ≤ n → n < 2047 * 2 ^ 52 → HasValue (of_bits binary64 n) false (units n) (2 ^ 1074)
plain_value n l h =
    subst (λ (s : Bool). HasValue (of_bits binary64 n) s (units n) (2 ^ 1074)) (lt-leb (2 ^ 63) n (omega arith)) (units_value n (omega arith) (omega arith))

module _ (b : ℕ) (lo : 963 * 2 ^ 52 ≤ b % 2 ^ 63) (hi : b % 2 ^ 63 ≤ 1083 * 2 ^ 52) where
  units_low : 2 ^ 1014 ≤ units b
  units_low =
      let x = b % 2 ^ 63 / 2 ^ 52 - 1 in
      let f : 962 ≤ x = omega arith in
      let m : 2 ^ 52 ≤ 2 ^ 52 + b % 2 ^ 52 = omega arith in
      le_trans (le_of_eq (pow-add 2 52 962)) (le_trans (mul-le-mul_left (2 ^ 52) (pow_mono f)) (mul-le-mul_right (2 ^ x) m))

  units_high : units b ≤ 2 ^ 1135
  units_high =
      let x = b % 2 ^ 63 / 2 ^ 52 - 1 in
      let f : x ≤ 1082 = omega arith in
      let m : 2 ^ 52 + b % 2 ^ 52 ≤ 2 ^ 53 = omega arith in
      le_trans (mul-le-mul_right (2 ^ x) m) (le_trans (mul-le-mul_left (2 ^ 53) (pow_mono f)) (le_of_eq (sym (pow-add 2 53 1082))))

-- a smaller pattern has a smaller value
grows : (m n : ℕ) → 2 ^ 52 ≤ m → m ≤ n → n < 2 ^ 63 → units m ≤ units n
grows m n l h k = ⊎_elim same other (eq-or-lt_of_le le)
  where
    x : ℕ
    x = m % 2 ^ 63 / 2 ^ 52 - 1

    y : ℕ
    y = n % 2 ^ 63 / 2 ^ 52 - 1

    le : x ≤ y
    le = omega arith

    same : x ≡ y → units m ≤ units n
    same e =
        let d : 2 ^ 52 + m % 2 ^ 52 ≤ 2 ^ 52 + n % 2 ^ 52 = omega arith in
        subst (λ (z : ℕ). units m ≤ (2 ^ 52 + n % 2 ^ 52) * 2 ^ z) e (mul-le-mul_right (2 ^ x) d)

    other : x < y → units m ≤ units n
    other g =
        let d : 2 ^ 52 + m % 2 ^ 52 ≤ 2 ^ 53 = omega arith in
        let e : 2 ^ 52 ≤ 2 ^ 52 + n % 2 ^ 52 = omega arith in
        let f : 53 + x ≤ 52 + y = omega arith in
        le_trans (mul-le-mul_right (2 ^ x) d)
        (le_trans (le_of_eq (sym (pow-add 2 53 x))) (le_trans (pow_mono f) (le_trans (le_of_eq (pow-add 2 52 y)) (mul-le-mul_right (2 ^ y) e))))

-- ---- where the size of a fraction shows its pattern's range

module _ (s : Bool) (num den : ℕ) (D : 0 < den) where
  abbrev bits : ℕ
  bits = to_bits binary64 (round binary64 s num den)

  abbrev k : ℕ
  k = own binary64 s num den D

  abbrev kept : ℕ
  kept = closest (num * 2 ^ 1074) (den * 2 ^ k)

  range : 2 ^ 954 * den ≤ num * 2 ^ 1074 → num * 2 ^ 1074 < 2 ^ 1199 * den → (899 * 2 ^ 52 ≤ bits % 2 ^ 63) × (bits % 2 ^ 63 ≤ 1148 * 2 ^ 52)
  range lo hi = last s bits k kept big small (least_is (least_own binary64 s num den D)) (most_own binary64 s num den D) (reads_own binary64 s num den D (under k small))
    where
      d : Drops 53 (num * 2 ^ 1074) den k
      d = own_drops binary64 s num den D

      big : 901 < k
      big = less k (pow_lt_back 954 (53 + k) (lt_of_mul-lt-mul_right den (lt_of_le_of_lt lo d.0)))
        where
          less : (k : ℕ) → 954 < 53 + k → 901 < k
          less k h = omega arith

      small : k < 1147
      small = go d.1
        where
          none : (k : ℕ) → k ≡ 0 → k < 1147
          none k e = omega arith

          less : (k : ℕ) → 52 + k < 1199 → k < 1147
          less k h = omega arith

          go : (k ≡ 0) ⊎ (2 ^ (52 + k) * den ≤ num * 2 ^ 1074) → k < 1147
          go (inl z) = none k z
          go (inr g) = less k (pow_lt_back (52 + k) 1199 (lt_of_mul-lt-mul_right den (lt_of_le_of_lt g hi)))

      under : (k : ℕ) → k < 1147 → suc k < 2047
      under k h = omega arith

      least_is : (k ≡ 0) ⊎ (2 ^ 52 ≤ kept) → 2 ^ 52 ≤ kept
      least_is (inl z) = absurd (never k big z)
        where
          never : (k : ℕ) → 901 < k → k ≡ 0 → ⊥
          never k h e = omega arith
      least_is (inr g) = g

      last : (s : Bool) (b k q : ℕ) → 901 < k → k < 1147 → 2 ^ 52 ≤ q → q ≤ 2 ^ 53 → b ≡ cond s (2 ^ 63) 0 + (k * 2 ^ 52 + q) → (899 * 2 ^ 52 ≤ b % 2 ^ 63) × (b % 2 ^ 63 ≤ 1148 * 2 ^ 52)
      last true b k q l h m n e = (omega arith, omega arith)
      last false b k q l h m n e = (omega arith, omega arith)

  -- an infinity's pattern, or the sign and what is no larger
  ends : (bits ≡ cond s (2 ^ 63) 0 + 2047 * 2 ^ 52) ⊎ ((m : ℕ) × (bits ≡ cond s (2 ^ 63) 0 + m) × (m ≤ 2047 * 2 ^ 52))
  ends = ⊎_elim (λ h. inl (infinite h)) (λ h. inr (k * 2 ^ 52 + kept, reads_own binary64 s num den D h, room k kept h (most_own binary64 s num den D))) (or_less 2047 (suc k))
    where
      infinite : 2047 ≤ suc k → bits ≡ cond s (2 ^ 63) 0 + 2047 * 2 ^ 52
      infinite h = ap (to_bits binary64) (over binary64 s num den D h) ∙ unfold to_bits in refl

      room : (k q : ℕ) → suc k < 2047 → q ≤ 2 ^ 53 → k * 2 ^ 52 + q ≤ 2047 * 2 ^ 52
      room k q h g = omega arith

  most : bits ≤ cond s (2 ^ 63) 0 + 2047 * 2 ^ 52
  most = ⊎_elim (λ e. le_of_eq e) (λ w. plus w.0 bits w.1 w.2) ends
    where
      plus : (m b : ℕ) → b ≡ cond s (2 ^ 63) 0 + m → m ≤ 2047 * 2 ^ 52 → b ≤ cond s (2 ^ 63) 0 + 2047 * 2 ^ 52
      plus m b e h = omega arith

  topmost : 2047 * 2 ^ 52 ≤ bits % 2 ^ 63 → cond s (2 ^ 63) 0 + 2047 * 2 ^ 52 ≤ bits
  topmost l = ⊎_elim (λ e. le_of_eq (sym e)) (λ w. go s bits w.0 w.1 w.2 l) ends
    where
      go : (t : Bool) (b m : ℕ) → b ≡ cond t (2 ^ 63) 0 + m → m ≤ 2047 * 2 ^ 52 → 2047 * 2 ^ 52 ≤ b % 2 ^ 63 → cond t (2 ^ 63) 0 + 2047 * 2 ^ 52 ≤ b
      go true b m e h l = omega arith
      go false b m e h l = omega arith

-- ---- a smaller fraction has no larger pattern, also where one of the two rounds to an infinity

ordered : (s : Bool) (a b d : ℕ) → 0 < d → a ≤ b → to_bits binary64 (round binary64 s a d) ≤ to_bits binary64 (round binary64 s b d)
ordered s a b d D h =
    ⊎_elim (λ l. le_trans (most s a d D) (topmost s b d D l)) (λ l. bits_less s a d b d D D (mul-le-mul_right d h) l)
    (or_less (2047 * 2 ^ 52) (to_bits binary64 (round binary64 s b d) % 2 ^ 63))

-- ---- the products

-- in units of 2 ^ -1074: 2 ^ 1014 are 2 ^ -60, and 2 ^ 1135 are 2 ^ 61
times_low : (a b : ℕ) → 2 ^ 1014 ≤ a → 2 ^ 1014 ≤ b → 2 ^ 954 * (2 ^ 1074 * 2 ^ 1074) ≤ a * b * 2 ^ 1074
times_low a b l h =
    le_trans (le_of_eq (ap (λ (x : ℕ). 2 ^ 954 * x) (sym (pow-add 2 1074 1074)) ∙ sym (pow-add 2 954 2148) ∙ pow-add 2 2028 1074 ∙ ap (λ (x : ℕ). x * 2 ^ 1074) (pow-add 2 1014 1014)))
    (mul-le-mul_right (2 ^ 1074) (le_trans (mul-le-mul_left (2 ^ 1014) h) (mul-le-mul_right b l)))

times_high : (a b : ℕ) → a ≤ 2 ^ 1135 → b ≤ 2 ^ 1135 → a * b * 2 ^ 1074 < 2 ^ 1199 * (2 ^ 1074 * 2 ^ 1074)
times_high a b l h =
    lt_of_le_of_lt (mul-le-mul_right (2 ^ 1074) (le_trans (mul-le-mul_left a h) (mul-le-mul_right (2 ^ 1135) l)))
    (lt_of_le_of_lt (le_of_eq (ap (λ (x : ℕ). x * 2 ^ 1074) (sym (pow-add 2 1135 1135)) ∙ sym (pow-add 2 2270 1074)))
    (lt_of_lt_of_le (pow-lt {i = 3344} {j = 3347} (lit< tt)) (le_of_eq (pow-add 2 1199 2148 ∙ ap (λ (x : ℕ). 2 ^ 1199 * x) (pow-add 2 1074 1074)))))

-- `from` is an f64: of other floats the pattern, with its sign cut, does not show the size
module _ (from : Float) (n : ℕ) (fit : T (fits binary64 from)) (m : Middle from) (lo : 963 * 2 ^ 52 ≤ n) (hi : n ≤ 1083 * 2 ^ 52) where
  abbrev b : ℕ
  b = to_bits binary64 from

  from_value : HasValue from (leb (2 ^ 63) b) (units b) (2 ^ 1074)
  from_value =
      subst (λ (v : Float). HasValue v (leb (2 ^ 63) b) (units b) (2 ^ 1074)) (of_bits-to_bits binary64 from fit)
      (units_value b (le_trans (lit≤ tt) m.low) (lt_of_le_of_lt m.high (lit< tt)))

  product_is : product from n ≡ to_bits binary64 (round binary64 (unlike (leb (2 ^ 63) b) false) (units b * units n) (2 ^ 1074 * 2 ^ 1074))
  product_is =
      ap (to_bits binary64)
      (mul_value (leb (2 ^ 63) b) false (units b) (units n) (2 ^ 1074) (2 ^ 1074) (pow_pos 1074) (pow_pos 1074) binary64 from (of_bits binary64 n) from_value
      (plain_value n (omega arith) (omega arith)))

  within : (899 * 2 ^ 52 ≤ product from n % 2 ^ 63) × (product from n % 2 ^ 63 ≤ 1148 * 2 ^ 52)
  within =
      let o : n % 2 ^ 63 ≡ n = mod-eq_of_lt {n = n} {m = 2 ^ 63} (omega arith) in
      let u = subst (λ (x : ℕ). 963 * 2 ^ 52 ≤ x) (sym o) lo in
      let v = subst (λ (x : ℕ). x ≤ 1083 * 2 ^ 52) (sym o) hi in
      subst (λ (x : ℕ). (899 * 2 ^ 52 ≤ x % 2 ^ 63) × (x % 2 ^ 63 ≤ 1148 * 2 ^ 52)) (sym product_is)
      (range (unlike (leb (2 ^ 63) b) false) (units b * units n) (2 ^ 1074 * 2 ^ 1074) (mul-pos (pow_pos 1074) (pow_pos 1074))
      (times_low (units b) (units n) (units_low b m.low m.high) (units_low n u v))
      (times_high (units b) (units n) (units_high b m.low m.high) (units_high n u v)))

  pub product_range : (899 * 2 ^ 52 ≤ product from n % 2 ^ 63) × (product from n % 2 ^ 63 < 1149 * 2 ^ 52)
  product_range = (within.0, lt_of_le_of_lt within.1 (lit< tt))

  below : product from n < 2 ^ 64
  below = to_bits-lt binary64 (mul binary64 from (of_bits binary64 n)) (mul-fits binary64 from (of_bits binary64 n))

  pub cut_room : product from n + 2 ^ 28 < 2 ^ 64
  cut_room = room (product from n) within.1 below
    where
      room : (h : ℕ) → h % 2 ^ 63 ≤ 1148 * 2 ^ 52 → h < 2 ^ 64 → h + 2 ^ 28 < 2 ^ 64
      room h u l = omega arith

  pub cut_nan : T (not (nan_bits binary64 (plain_cut (product from n))))
  cut_nan = plain_nan (product from n) below (le_trans (lit≤ tt) within.0) product_range.1

  -- the even cut is the product narrowed
  pub even_room : product from n + 268435455 + product from n / 2 ^ 29 % 2 < 2 ^ 64
  even_room = room (product from n) (product from n / 2 ^ 29 % 2) within.1 below (omega arith)
    where
      room : (h p : ℕ) → h % 2 ^ 63 ≤ 1148 * 2 ^ 52 → h < 2 ^ 64 → p < 2 → h + 268435455 + p < 2 ^ 64
      room h p u l q = omega arith

  low898 : 898 * 2 ^ 52 ≤ product from n % 2 ^ 63
  low898 = le_trans (lit≤ tt) within.0

  pub even_narrow : of_bits binary64 (even_cut (product from n)) ≡ narrowed (mul binary64 from (of_bits binary64 n))
  even_narrow = even_law (mul binary64 from (of_bits binary64 n)) (mul-fits binary64 from (of_bits binary64 n)) (product from n) refl below low898 product_range.1

  pub even_cut_nan : T (not (nan_bits binary64 (even_cut (product from n))))
  even_cut_nan = even_nan (product from n) below low898 product_range.1

  pub even_fits : T (fits binary32 (of_bits binary64 (even_cut (product from n))) && not (is_nan (of_bits binary64 (even_cut (product from n)))))
  even_fits = cast_ok (even_cut (product from n)) (narrowed (mul binary64 from (of_bits binary64 n))) even_narrow (narrowed_fits (mul binary64 from (of_bits binary64 n))) even_cut_nan

  -- what is cut already, an even cut leaves as it is: so it is an f32
  pub cut_narrow : of_bits binary64 (plain_cut (product from n)) ≡ narrowed (of_bits binary64 (plain_cut (product from n)))
  cut_narrow =
      let h = product from n in
      let c = plain_cut h in
      let w = near h below within.0 within.1 in
      ap (of_bits binary64) (sym (twice c (c / 2 ^ 29 % 2) (omega arith) (omega arith)))
      ∙ even_law (of_bits binary64 c) (of_bits-fits binary64 c) c (sym (to_bits-of_bits binary64 c w.0 (subst (λ (x : Bool). T (not x)) (nan_bits_is binary64 c) cut_nan))) w.0 w.1 w.2
    where
      near : (h : ℕ) → h < 2 ^ 64 → 899 * 2 ^ 52 ≤ h % 2 ^ 63 → h % 2 ^ 63 ≤ 1148 * 2 ^ 52
          → (plain_cut h < 2 ^ 64) × (898 * 2 ^ 52 ≤ plain_cut h % 2 ^ 63) × (plain_cut h % 2 ^ 63 < 1149 * 2 ^ 52)
      near h l a b = (omega arith, omega arith, omega arith)

      twice : (c p : ℕ) → c % 2 ^ 29 ≡ 0 → p < 2 → c + 268435455 + p - (c + 268435455 + p) % 2 ^ 29 ≡ c
      twice c p e h = omega arith

  pub cut_fits : T (fits binary32 (of_bits binary64 (plain_cut (product from n))) && not (is_nan (of_bits binary64 (plain_cut (product from n)))))
  cut_fits = cast_ok (plain_cut (product from n)) (narrowed (of_bits binary64 (plain_cut (product from n)))) cut_narrow (narrowed_fits (of_bits binary64 (plain_cut (product from n)))) cut_nan

-- ---- the order

product_order : (from : Float) (m n : ℕ) → T (finite from) → 2 ^ 52 ≤ m → m ≤ n → n < 2047 * 2 ^ 52 → product from m ≤ product from n
product_order nan m n f l h u = absurd f
product_order (inf s) m n f l h u = absurd f
product_order (fin s i e) m n f l h u =
    le_trans (le_of_eq (at m l (omega arith)))
    (le_trans (ordered (unlike s false) (i * up e * units m) (i * up e * units n) (down e * 2 ^ 1074) (mul-pos (down_pos e) (pow_pos 1074)) (mul-le-mul_left (i * up e) (grows m n l h (omega arith))))
    (le_of_eq (sym (at n (omega arith) u))))
  where
    at : (x : ℕ) → 2 ^ 52 ≤ x → x < 2047 * 2 ^ 52 → product (fin s i e) x ≡ to_bits binary64 (round binary64 (unlike s false) (i * up e * units x) (down e * 2 ^ 1074))
    at x l u =
        ap (to_bits binary64)
        (mul_value s false (i * up e) (units x) (down e) (2 ^ 1074) (down_pos e) (pow_pos 1074) binary64 (fin s i e) (of_bits binary64 x) (refl, refl) (plain_value x l u))

pub product_mono : (from : Float) (n : ℕ) → Middle from → 963 * 2 ^ 52 ≤ n → n ≤ 1083 * 2 ^ 52 → product from (n - 41943040) ≤ product from n
product_mono from n m lo hi = product_order from (n - 41943040) n m.fine (omega arith) (omega arith) (omega arith)
