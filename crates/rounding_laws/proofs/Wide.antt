-- a * b + c of `f32`s, worked out in `f64`: the product is exact, and the sum is rounded once. Where its pattern is no midpoint of `f32`, and in the range of its normal numbers, cutting it gives the fused result. Assumes nothing.
use mathlib.Core.Path.{◌≡◌, refl, sym, ap, ◌∙◌, subst}
use Prim.Native.Nat.{ℕ, zero, suc, ◌+◌, ◌-◌, ◌*◌, ◌/◌, ◌%◌, ◌^◌, ◌≤◌, ◌<◌, compare}
use native.Mathlib.Nat.{le_of_lt, lt_of_lt_of_le, lt_of_le_of_lt, mul-pos, mul_comm, mul_assoc, mul_left_comm, mul-le-mul_left, mul-lt-mul_of_pos_right}
use native.Mathlib.Omega.{arith}
use mathlib.Core.Bool.{Bool, true, false, not, cond, beq}
use lib.Dec.{T, leb, ltb, eqb, lit≤}
use lib.Pow.{pow-add, pow_pos, pow_mono, shl_lt}
use lib.Ieee.{Float, nan, inf, fin, Format, binary32, binary64, up, down, unlike, round, sum, add, mul, odd, units, prec, emax, low, size, nearest, of_bits, to_bits, is_nan, fits}
use lib.Ieee.Fits.{round_is}
use lib.Ieee.Exact.{HasValue, round_exact}
use lib.Ieee.Scale.{finite}
use Rattle.rules.specs.Numbers.{fused}
use Rattle.rounding_laws.specs.Cut.{plain_cut}
use Rattle.rounding_laws.proofs.Value.{value_finite, digits, power, bits_value}
use Rattle.rounding_laws.proofs.Parts.{parted}
use Rattle.rounding_laws.proofs.Sum.{sum_once}
use Rattle.rounding_laws.proofs.Fuse.{rescale, mul_value, add_value, fused_value}
use Rattle.rounding_laws.specs.Total.{total_sign, total_size}
use Rattle.rounding_laws.proofs.Cut.{inf_bits, plain_law}

-- ---- a finite result has finite operands
not_cond : (b : Bool) (s : Bool) → T (finite (cond b nan (inf s))) → ⊥
not_cond true s t = t
not_cond false s t = t

not_cond' : (b : Bool) (s : Bool) → T (finite (cond b (inf s) nan)) → ⊥
not_cond' true s t = t
not_cond' false s t = t

pub add_finite : (f : Format) (x y : Float) → T (finite (add f x y)) → T (finite x) × T (finite y)
unfolding add
add_finite f nan y t = absurd t
add_finite f (inf s) nan t = absurd t
add_finite f (inf s) (inf u) t = absurd (not_cond' (beq s u) s t)
add_finite f (inf s) (fin u n d) t = absurd t
add_finite f (fin s m e) nan t = absurd t
add_finite f (fin s m e) (inf u) t = absurd t
add_finite f (fin s m e) (fin u n d) t = (tt, tt)

pub mul_finite : (f : Format) (x y : Float) → T (finite (mul f x y)) → T (finite x) × T (finite y)
unfolding mul
mul_finite f nan y t = absurd t
mul_finite f (inf s) nan t = absurd t
mul_finite f (inf s) (inf u) t = absurd t
mul_finite f (inf s) (fin u n d) t = absurd (not_cond (eqb n 0) (unlike s u) t)
mul_finite f (fin s m e) nan t = absurd t
mul_finite f (fin s m e) (inf u) t = absurd (not_cond (eqb m 0) (unlike s u) t)
mul_finite f (fin s m e) (fin u n d) t = (tt, tt)

pub finite_of_bits : (x : Float) → T (not (is_nan x)) → to_bits binary64 x % 2 ^ 63 < 1149 * 2 ^ 52 → T (finite x)
unfolding is_nan
finite_of_bits nan n h = absurd n
finite_of_bits (inf s) n h = absurd (clash (to_bits binary64 (inf s) % 2 ^ 63) h (inf_bits s))
  where
    clash : (y : ℕ) → y < 1149 * 2 ^ 52 → y ≡ 2047 * 2 ^ 52 → ⊥
    clash y h e = omega arith
finite_of_bits (fin s m e) n h = tt

-- ---- a finite `f32` by its value
pub record Parts (x : Float) : Type 0 where
  pub s : Bool
  pub m : ℕ
  pub j : ℕ
  pub value : HasValue x s (m * 2 ^ j) (2 ^ 149)
  pub short : m < 2 ^ 24
  pub reach : j < 300

pub parts_of_lem : (x : Float) → T (fits binary32 x) → T (finite x) → Parts x
parts_of_lem x fit fine =
    let P = parted binary32 x fit fine in
    record { s = leb (2 ^ 31) b; m = digits binary32 (b % 2 ^ 31 / 2 ^ 23) (b % 2 ^ 23); j = power (b % 2 ^ 31 / 2 ^ 23); value = P.value; short = P.short; reach = further (power (b % 2 ^ 31 / 2 ^ 23)) P.reach }
  where
    b : ℕ
    b = to_bits binary32 x

    further : (f : ℕ) → f < 255 → f < 300
    further f h = omega arith

-- ---- the product is exact
product_lt : (m n : ℕ) → m < 2 ^ 24 → n < 2 ^ 24 → m * n < 2 ^ 48
product_lt m n h k = lt_of_le_of_lt (mul-le-mul_left m (le_of_lt k)) (mul-lt-mul_of_pos_right h (pow_pos 24))

regroup : (l m I J P Q R : ℕ) → P * Q ≡ R → l * I * (m * J) * R ≡ l * m * (I * J * P) * Q
regroup l m I J P Q R h = ap (λ (x : ℕ). l * I * (m * J) * x) (sym h) ∙ simp (mul_assoc, mul_comm, mul_left_comm)

pub product_exact : (s t : Bool) (l m i j : ℕ) → l < 2 ^ 24 → m < 2 ^ 24 → i < 300 → j < 300 → (x y : Float) → HasValue x s (l * 2 ^ i) (2 ^ 149) → HasValue y t (m * 2 ^ j) (2 ^ 149)
    → HasValue (mul binary64 x y) (unlike s t) (l * 2 ^ i * (m * 2 ^ j)) (2 ^ 149 * 2 ^ 149)
product_exact s t l m i j L M I J x y p q =
    subst (λ (v : Float). HasValue v (unlike s t) (l * 2 ^ i * (m * 2 ^ j)) (2 ^ 149 * 2 ^ 149)) (sym (mul_value s t (l * 2 ^ i) (m * 2 ^ j) (2 ^ 149) (2 ^ 149) (pow_pos 149) (pow_pos 149) binary64 x y p q))
    (round_exact binary64 (unlike s t) (l * 2 ^ i * (m * 2 ^ j)) (2 ^ 149 * 2 ^ 149) (l * m) (i + j + 776) (mul-pos (pow_pos 149) (pow_pos 149)) (lt_of_lt_of_le (product_lt l m L M) (lit≤ tt))
    (lt_of_lt_of_le (shl_lt 48 (i + j + 776) (product_lt l m L M)) (pow_mono (room i j I J)))
    (regroup l m (2 ^ i) (2 ^ j) (2 ^ 776) (2 ^ 149 * 2 ^ 149) (2 ^ 1074) refl ∙ ap (λ (e : ℕ). l * m * e * (2 ^ 149 * 2 ^ 149)) (sym (pow-add 2 (i + j) 776 ∙ ap (λ (e : ℕ). e * 2 ^ 776) (pow-add 2 i j)))))
  where
    room : (i j : ℕ) → i < 300 → j < 300 → 48 + (i + j + 776) ≤ 2098
    room i j I J = omega arith

-- ---- a * b + c by the parts: one exact number, rounded in either format
module _ (a b c : Float) (x : Parts a) (y : Parts b) (z : Parts c) where
  abbrev pub sum_sign : Bool
  sum_sign = total_sign (unlike x.s y.s) (x.m * 2 ^ x.j * (y.m * 2 ^ y.j)) z.s (z.m * 2 ^ z.j * 2 ^ 149)

  abbrev pub sum_size : ℕ
  sum_size = total_size (beq (unlike x.s y.s) z.s) (x.m * 2 ^ x.j * (y.m * 2 ^ y.j)) (z.m * 2 ^ z.j * 2 ^ 149)

  abbrev pub sum_den : ℕ
  sum_den = 2 ^ 149 * 2 ^ 149

  pub den_pos : 0 < sum_den
  den_pos = mul-pos (pow_pos 149) (pow_pos 149)

  third_value : HasValue c z.s (z.m * 2 ^ z.j * 2 ^ 149) sum_den
  third_value = rescale c z.s (z.m * 2 ^ z.j) (2 ^ 149) (z.m * 2 ^ z.j * 2 ^ 149) sum_den (pow_pos 149) (mul_assoc (z.m * 2 ^ z.j) (2 ^ 149) (2 ^ 149)) z.value

  pub wide_sum : add binary64 (mul binary64 a b) c ≡ round binary64 sum_sign sum_size sum_den
  wide_sum =
      add_value binary64 (unlike x.s y.s) z.s (x.m * 2 ^ x.j * (y.m * 2 ^ y.j)) (z.m * 2 ^ z.j * 2 ^ 149) sum_den den_pos (mul binary64 a b) c
      (product_exact x.s y.s x.m y.m x.j y.j x.short y.short x.reach y.reach a b x.value y.value) third_value
      ∙ sum_once binary64 (unlike x.s y.s) (x.m * 2 ^ x.j * (y.m * 2 ^ y.j)) z.s (z.m * 2 ^ z.j * 2 ^ 149) sum_den

  pub fused_sum : round binary32 sum_sign sum_size sum_den ≡ fused binary32 a b c
  fused_sum =
      sym (sum_once binary32 (unlike x.s y.s) (x.m * 2 ^ x.j * (y.m * 2 ^ y.j)) z.s (z.m * 2 ^ z.j * 2 ^ 149) sum_den)
      ∙ sym (fused_value binary32 x.s y.s z.s (x.m * 2 ^ x.j) (y.m * 2 ^ y.j) (z.m * 2 ^ z.j * 2 ^ 149) (2 ^ 149) (2 ^ 149) (pow_pos 149) (pow_pos 149) a b c x.value y.value third_value)

-- the operands of a sum in the range of `f32`'s normal numbers are finite
pub all_finite_lem : (a b c : Float) (n : ℕ) → n ≡ to_bits binary64 (add binary64 (mul binary64 a b) c) → T (not (is_nan (add binary64 (mul binary64 a b) c))) → n % 2 ^ 63 < 1149 * 2 ^ 52 → T (finite a) × T (finite b) × T (finite c)
all_finite_lem a b c n e nn hi =
    let fine = add_finite binary64 (mul binary64 a b) c (finite_of_bits (add binary64 (mul binary64 a b) c) nn (subst (λ (y : ℕ). y % 2 ^ 63 < 1149 * 2 ^ 52) e hi)) in
    let both = mul_finite binary64 a b fine.0 in
    (both.0, both.1, fine.1)

-- ---- the law
pub fast_law : (a b c : Float) → T (fits binary32 a) → T (fits binary32 b) → T (fits binary32 c) → (n : ℕ) → n ≡ to_bits binary64 (add binary64 (mul binary64 a b) c) → T (not (is_nan (add binary64 (mul binary64 a b) c)))
    → 898 * 2 ^ 52 ≤ n % 2 ^ 63 → n % 2 ^ 63 < 1149 * 2 ^ 52 → ((n + 2 ^ 28) % 2 ^ 29 ≡ 0 → ⊥) → of_bits binary64 (plain_cut n) ≡ fused binary32 a b c
fast_law a b c fa fb fc n e nn lo hi mid =
    let fine = all_finite_lem a b c n e nn hi in
    let x = parts_of_lem a fa fine.0 in
    let y = parts_of_lem b fb fine.1 in
    let z = parts_of_lem c fc fine.2 in
    plain_law (sum_sign a b c x y z) (sum_size a b c x y z) (sum_den a b c x y z) n (den_pos a b c x y z) (e ∙ ap (to_bits binary64) (wide_sum a b c x y z)) lo hi mid ∙ fused_sum a b c x y z

-- ---- no NaN comes of finite operands
odd_no_nan : (d : ℕ) (s : Bool) (q k l : ℕ) → T (not (is_nan (odd d s q k l)))
unfolding odd is_nan
odd_no_nan d s zero k l = tt
odd_no_nan d s (suc q) k l = tt

units_no_nan : (f : Format) (s : Bool) (q k : ℕ) → T (not (is_nan (units f s q k)))
unfolding units
units_no_nan f s q k = go (ltb (q * 2 ^ k) (2 ^ (low f + suc (emax f))))
  where
    go : (b : Bool) → T (not (is_nan (cond b (odd (suc (prec f)) s q k (low f)) (inf s))))
    go true = odd_no_nan (suc (prec f)) s q k (low f)
    go false = unfold is_nan in tt

pub round_no_nan : (f : Format) (s : Bool) (num den : ℕ) → T (not (is_nan (round f s num den)))
round_no_nan f s num den =
    let k = size (num * 2 ^ low f / den) - prec f in
    let u = den * 2 ^ k in
    subst (λ (v : Float). T (not (is_nan v))) (sym (round_is f s num den)) (units_no_nan f s (nearest (num * 2 ^ low f / u) (compare (num * 2 ^ low f % u * 2) u)) k)

sum_no_nan : (f : Format) (s : Bool) (a : ℕ) (t : Bool) (b c : ℕ) → T (not (is_nan (sum f s a t b c)))
sum_no_nan f s a t b c = subst (λ (v : Float). T (not (is_nan v))) (sym (sum_once f s a t b c)) (round_no_nan f (total_sign s a t b) (total_size (beq s t) a b) c)

pub mul_no_nan : (f : Format) (x y : Float) → T (finite x) → T (finite y) → T (not (is_nan (mul f x y)))
unfolding mul
mul_no_nan f nan y h k = absurd h
mul_no_nan f (inf s) y h k = absurd h
mul_no_nan f (fin s m e) nan h k = absurd k
mul_no_nan f (fin s m e) (inf t) h k = absurd k
mul_no_nan f (fin s m e) (fin t n d) h k = round_no_nan f (unlike s t) (m * up e * (n * up d)) (down e * down d)

pub add_no_nan : (f : Format) (x y : Float) → T (not (is_nan x)) → T (finite y) → T (not (is_nan (add f x y)))
unfolding add is_nan
add_no_nan f nan y h k = absurd h
add_no_nan f (inf s) nan h k = absurd k
add_no_nan f (inf s) (inf t) h k = absurd k
add_no_nan f (inf s) (fin t n d) h k = tt
add_no_nan f (fin s m e) nan h k = absurd k
add_no_nan f (fin s m e) (inf t) h k = absurd k
add_no_nan f (fin s m e) (fin t n d) h k = sum_no_nan f s (m * up e * down d) t (n * up d * down e) (down e * down d)

pub pattern_finite : (n : ℕ) → n % 2 ^ 63 < 2047 * 2 ^ 52 → T (finite (of_bits binary64 n))
pattern_finite n h = value_finite (of_bits binary64 n) (leb (2 ^ 63) n) (digits binary64 (n % 2 ^ 63 / 2 ^ 52) (n % 2 ^ 52) * 2 ^ power (n % 2 ^ 63 / 2 ^ 52)) (2 ^ 1074) (bits_value binary64 n (field (n % 2 ^ 63) h))
  where
    field : (y : ℕ) → y < 2047 * 2 ^ 52 → y / 2 ^ 52 < 2047
    field y h = omega arith
