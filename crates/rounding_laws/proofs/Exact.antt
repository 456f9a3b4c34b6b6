-- a * b + c of `f32`s in `f64`, where the exponents show that the sum is exact too: then a midpoint is a tie, and cutting to even gives the fused result. Assumes nothing.
use mathlib.Core.Path.{◌≡◌, refl, sym, ap, ◌∙◌, subst}
use mathlib.Core.Logic.{◌⊎◌, inl, inr}
use Prim.Native.Nat.{ℕ, zero, suc, ◌+◌, ◌-◌, ◌*◌, ◌/◌, ◌%◌, ◌^◌, ◌≤◌, ◌<◌, zero-le}
use native.Mathlib.Nat.{le_trans, le_of_eq, lt_of_lt_of_le, lt_of_le_of_lt, zero-mul, mul_comm, mul_assoc, mul_left_comm, mul_right_comm, mul-le-mul_right, mul-lt-mul_of_pos_right, eq_of_mul-eq-mul_right}
use native.Mathlib.Omega.{arith}
use mathlib.Core.Bool.{Bool, not, beq}
use lib.Dec.{T, leb, lit<}
use lib.Pow.{pow-add, pow_pos}
use lib.Ieee.{Float, nan, inf, fin, binary32, binary64, up, down, unlike, add, mul, of_bits, to_bits, is_nan, fits}
use lib.Ieee.Fits.{fits_widens, down_pos}
use lib.Ieee.Bits.{of_bits-to_bits}
use lib.Ieee.Exact.{HasValue}
use lib.Ieee.Scale.{finite}
use Rattle.rules.specs.Numbers.{fused}
use Rattle.rounding_laws.specs.Cut.{even_cut}
use Rattle.rounding_laws.proofs.Value.{digits, power, bits_value}
use Rattle.rounding_laws.proofs.Decode.{finite_field, normal_value}
pub use Rattle.rounding_laws.proofs.Powers.{pow_lt_back}
pub use Rattle.rounding_laws.proofs.Sum.{total_multiple}
use Rattle.rounding_laws.proofs.Fuse.{rescale}
use Rattle.rounding_laws.proofs.Pack.{Drops}
use Rattle.rounding_laws.specs.Total.{total_size}
use Rattle.rounding_laws.proofs.Cut.{even_sum_law}
use Rattle.rounding_laws.proofs.Wide.{Parts, parts_of_lem, all_finite_lem, sum_sign, sum_size, sum_den, den_pos, wide_sum, fused_sum}

-- ---- one value, two fractions
pub same_value_lem : (x : Float) (s t : Bool) (a c b d : ℕ) → HasValue x s a c → HasValue x t b d → a * d ≡ b * c
same_value_lem nan s t a c b d p q = absurd p
same_value_lem (inf u) s t a c b d p q = absurd p
same_value_lem (fin u m e) s t a c b d p q =
    eq_of_mul-eq-mul_right (down e) (down_pos e) (a * d) (b * c)
    (mul_right_comm a d (down e) ∙ ap (λ (y : ℕ). y * d) (sym p.1) ∙ mul_right_comm (m * up e) c d ∙ ap (λ (y : ℕ). y * c) q.1 ∙ mul_right_comm b (down e) c)

-- the exponent's field of an `f32` as an `f64` says by which power of two it can be divided
abbrev pub field : Float → ℕ
field x = to_bits binary64 x % 2 ^ 63 / 2 ^ 52

pub field_grid : (x : Float) → T (fits binary32 x) → T (finite x) → (P : Parts x) → field x ≤ P.j + 897
field_grid x fit fine P = go (field x) refl
  where
    b : ℕ
    b = to_bits binary64 x

    back : of_bits binary64 b ≡ x
    back = of_bits-to_bits binary64 x (fits_widens x fit)

    small : field x < 2047
    small = let n : b % 2 ^ 63 / 2 ^ 52 ≡ 2047 → ⊥ = finite_field binary64 b (subst (λ (v : Float). T (finite v)) (sym back) fine) in omega arith

    value : HasValue x (leb (2 ^ 63) b) (digits binary64 (field x) (b % 2 ^ 52) * 2 ^ power (field x)) (2 ^ 1074)
    value = subst (λ (v : Float). HasValue v (leb (2 ^ 63) b) (digits binary64 (field x) (b % 2 ^ 52) * 2 ^ power (field x)) (2 ^ 1074)) back (bits_value binary64 b small)

    go : (f : ℕ) → field x ≡ f → f ≤ P.j + 897
    go zero e = zero-le
    go (suc k) e =
        let v : HasValue x (leb (2 ^ 63) b) ((2 ^ 52 + b % 2 ^ 52) * 2 ^ k) (2 ^ 1074) = subst (λ (f : ℕ). HasValue x (leb (2 ^ 63) b) (digits binary64 f (b % 2 ^ 52) * 2 ^ power f) (2 ^ 1074)) e value in
        last k P.j (pow_lt_back (52 + k + 149) (24 + (P.j + 1074)) (lt_of_le_of_lt (lower k) (lt_of_le_of_lt (le_of_eq (sym (same_value_lem x P.s (leb (2 ^ 63) b) (P.m * 2 ^ P.j) (2 ^ 149) ((2 ^ 52 + b % 2 ^ 52) * 2 ^ k) (2 ^ 1074) P.value v))) upper)))
      where
        lower : (k : ℕ) → 2 ^ (52 + k + 149) ≤ (2 ^ 52 + b % 2 ^ 52) * 2 ^ k * 2 ^ 149
        lower k =
            le_trans (le_of_eq (pow-add 2 (52 + k) 149 ∙ ap (λ (y : ℕ). y * 2 ^ 149) (pow-add 2 52 k)))
            (mul-le-mul_right (2 ^ 149) (mul-le-mul_right (2 ^ k) (more (b % 2 ^ 52))))
          where
            more : (t : ℕ) → 2 ^ 52 ≤ 2 ^ 52 + t
            more t = omega arith

        upper : P.m * 2 ^ P.j * 2 ^ 1074 < 2 ^ (24 + (P.j + 1074))
        upper =
            lt_of_lt_of_le (mul-lt-mul_of_pos_right (mul-lt-mul_of_pos_right P.short (pow_pos P.j)) (pow_pos 1074))
            (le_of_eq (mul_assoc (2 ^ 24) (2 ^ P.j) (2 ^ 1074) ∙ ap (λ (y : ℕ). 2 ^ 24 * y) (sym (pow-add 2 P.j 1074)) ∙ sym (pow-add 2 24 (P.j + 1074))))

        last : (k j : ℕ) → 52 + k + 149 < 24 + (j + 1074) → suc k ≤ j + 897
        last k j h = omega arith

-- a pattern of nothing but a sign
pub zero_value : (x : Float) → T (fits binary32 x) → to_bits binary64 x % 2 ^ 63 ≡ 0 → (P : Parts x) → P.m * 2 ^ P.j ≡ 0
zero_value x fit z P =
    eq_of_mul-eq-mul_right (2 ^ 1074) (pow_pos 1074) (P.m * 2 ^ P.j) 0
    (same_value_lem x P.s (leb (2 ^ 63) b) (P.m * 2 ^ P.j) (2 ^ 149) (b % 2 ^ 52 * 2 ^ 0) (2 ^ 1074) P.value value
    ∙ ap (λ (y : ℕ). y * 2 ^ 0 * 2 ^ 149) (low (b) z))
  where
    b : ℕ
    b = to_bits binary64 x

    low : (b : ℕ) → b % 2 ^ 63 ≡ 0 → b % 2 ^ 52 ≡ 0
    low b h = omega arith

    none : (b : ℕ) → b % 2 ^ 63 ≡ 0 → b % 2 ^ 63 / 2 ^ 52 ≡ 0
    none b h = omega arith

    value : HasValue x (leb (2 ^ 63) b) (b % 2 ^ 52 * 2 ^ 0) (2 ^ 1074)
    value =
        subst (λ (v : Float). HasValue v (leb (2 ^ 63) b) (b % 2 ^ 52 * 2 ^ 0) (2 ^ 1074)) (of_bits-to_bits binary64 x (fits_widens x fit))
        (subst (λ (f : ℕ). HasValue (of_bits binary64 b) (leb (2 ^ 63) b) (digits binary64 f (b % 2 ^ 52) * 2 ^ power f) (2 ^ 1074)) (none b z) (bits_value binary64 b (subst (λ (f : ℕ). f < 2047) (sym (none b z)) (lit< tt))))

-- ---- the law
split : (e k : ℕ) → k ≤ e → 2 ^ e ≡ 2 ^ (e - k) * 2 ^ k
split e k h = ap (λ (x : ℕ). 2 ^ x) (apart e k h) ∙ pow-add 2 (e - k) k
  where
    apart : (e k : ℕ) → k ≤ e → e ≡ e - k + k
    apart e k h = omega arith

pub product_multiple : (l m i j k : ℕ) → k ≤ i + j + 776 → l * 2 ^ i * (m * 2 ^ j) * 2 ^ 776 ≡ l * m * 2 ^ (i + j + 776 - k) * 2 ^ k
product_multiple l m i j k h =
    group l m (2 ^ i) (2 ^ j) (2 ^ 776) ∙ ap (λ (y : ℕ). l * m * y) (sym (pow-add 2 (i + j) 776 ∙ ap (λ (y : ℕ). y * 2 ^ 776) (pow-add 2 i j)) ∙ split (i + j + 776) k h) ∙ sym (mul_assoc (l * m) (2 ^ (i + j + 776 - k)) (2 ^ k))
  where
    group : (l m I J P : ℕ) → l * I * (m * J) * P ≡ l * m * (I * J * P)
    group l m I J P = simp (mul_assoc, mul_comm, mul_left_comm)

pub third_multiple : (n j k : ℕ) → k ≤ j + 925 → n * 2 ^ j * 2 ^ 149 * 2 ^ 776 ≡ n * 2 ^ (j + 925 - k) * 2 ^ k
third_multiple n j k h =
    mul_assoc (n * 2 ^ j) (2 ^ 149) (2 ^ 776) ∙ mul_assoc n (2 ^ j) (2 ^ 149 * 2 ^ 776) ∙ ap (λ (y : ℕ). n * (2 ^ j * y)) (sym (pow-add 2 149 776))
    ∙ ap (λ (y : ℕ). n * y) (sym (pow-add 2 j 925) ∙ split (j + 925) k h) ∙ sym (mul_assoc n (2 ^ (j + 925 - k)) (2 ^ k))

pub gather : (N w P E g R : ℕ) → P * E ≡ R → N * P ≡ w * g → N * R ≡ w * (E * g)
gather N w P E g R h k = ap (λ (y : ℕ). N * y) (sym h) ∙ sym (mul_assoc N P E) ∙ ap (λ (y : ℕ). y * E) k ∙ mul_assoc w g E ∙ ap (λ (y : ℕ). w * y) (mul_comm g E)

-- by any power of two 2 ^ (g - 897) that a can be divided by
pub grid_law : (a b c : Float) → T (fits binary32 a) → T (fits binary32 b) → T (fits binary32 c) → (n : ℕ) → n ≡ to_bits binary64 (add binary64 (mul binary64 a b) c) → T (not (is_nan (add binary64 (mul binary64 a b) c)))
    → 898 * 2 ^ 52 ≤ n % 2 ^ 63 → n % 2 ^ 63 < 1149 * 2 ^ 52 → (g : ℕ) → (T (finite a) → (P : Parts a) × (g ≤ P.j + 897)) → n % 2 ^ 63 / 2 ^ 52 + 1017 ≤ g + field b → (to_bits binary64 c % 2 ^ 63 ≡ 0) ⊎ (n % 2 ^ 63 / 2 ^ 52 ≤ field c + 29)
    → of_bits binary64 (even_cut n) ≡ fused binary32 a b c
grid_law a b c fa fb fc n e nn lo hi g of one two =
    let fine = all_finite_lem a b c n e nn hi in
    let x = of fine.0 in
    let y = parts_of_lem b fb fine.1 in
    let z = parts_of_lem c fc fine.2 in
    go x.0 y z x.1 (field_grid b fb fine.1 y) (field_grid c fc fine.2 z)
  where
    go : (x : Parts a) (y : Parts b) (z : Parts c) → g ≤ x.j + 897 → field b ≤ y.j + 897 → field c ≤ z.j + 897 → of_bits binary64 (even_cut n) ≡ fused binary32 a b c
    go x y z ga gb gc =
        even_sum_law (sum_sign a b c x y z) (sum_size a b c x y z) (sum_den a b c x y z) n (den_pos a b c x y z) (e ∙ ap (to_bits binary64) (wide_sum a b c x y z)) lo hi exact ∙ fused_sum a b c x y z
      where
        first_le : (k f fa fb i j : ℕ) → suc k ≤ f → f + 1017 ≤ fa + fb → fa ≤ i + 897 → fb ≤ j + 897 → k ≤ i + j + 776
        first_le k f fa fb i j p q r s = omega arith

        second_le : (k f fc j : ℕ) → suc k ≤ f → f ≤ fc + 29 → fc ≤ j + 897 → k ≤ j + 925
        second_le k f fc j p q r = omega arith

        third : (k : ℕ) → suc k ≤ n % 2 ^ 63 / 2 ^ 52 → (to_bits binary64 c % 2 ^ 63 ≡ 0) ⊎ (n % 2 ^ 63 / 2 ^ 52 ≤ field c + 29) → (v : ℕ) × (z.m * 2 ^ z.j * 2 ^ 149 * 2 ^ 776 ≡ v * 2 ^ k)
        third k h (inl o) = (0, ap (λ (y : ℕ). y * 2 ^ 149 * 2 ^ 776) (zero_value c fc o z) ∙ sym (zero-mul (2 ^ k)))
        third k h (inr o) = (z.m * 2 ^ (z.j + 925 - k), third_multiple z.m z.j k (second_le k (n % 2 ^ 63 / 2 ^ 52) (field c) z.j h o gc))

        exact : (k : ℕ) → suc k ≤ n % 2 ^ 63 / 2 ^ 52 → Drops 53 (sum_size a b c x y z * 2 ^ 1074) (sum_den a b c x y z) k → (w : ℕ) × (sum_size a b c x y z * 2 ^ 1074 ≡ w * (sum_den a b c x y z * 2 ^ k))
        exact k h d =
            let t = third k h two in
            let u = x.m * y.m * 2 ^ (x.j + y.j + 776 - k) in
            let like = beq (unlike x.s y.s) z.s in (
              total_size like u t.0,
              gather (sum_size a b c x y z) (total_size like u t.0) (2 ^ 776) (sum_den a b c x y z) (2 ^ k) (2 ^ 1074) refl
                  (total_multiple like (x.m * 2 ^ x.j * (y.m * 2 ^ y.j)) (z.m * 2 ^ z.j * 2 ^ 149) (2 ^ 776) (2 ^ k) u t.0 (product_multiple x.m y.m x.j y.j k (first_le k (n % 2 ^ 63 / 2 ^ 52) g (field b) x.j y.j h one ga gb)) t.1),
            )

pub tie_law : (a b c : Float) → T (fits binary32 a) → T (fits binary32 b) → T (fits binary32 c) → (n : ℕ) → n ≡ to_bits binary64 (add binary64 (mul binary64 a b) c) → T (not (is_nan (add binary64 (mul binary64 a b) c)))
    → 898 * 2 ^ 52 ≤ n % 2 ^ 63 → n % 2 ^ 63 < 1149 * 2 ^ 52 → n % 2 ^ 63 / 2 ^ 52 + 1017 ≤ field a + field b → (to_bits binary64 c % 2 ^ 63 ≡ 0) ⊎ (n % 2 ^ 63 / 2 ^ 52 ≤ field c + 29)
    → of_bits binary64 (even_cut n) ≡ fused binary32 a b c
tie_law a b c fa fb fc n e nn lo hi one two = grid_law a b c fa fb fc n e nn lo hi (field a) (λ t. let P = parts_of_lem a fa t in (P, field_grid a fa t P)) one two

-- a number of at most eight digits can be divided by 2 ^ 16 more
pub short_parts : (a : Float) → T (fits binary64 a) → to_bits binary64 a % 2 ^ 45 ≡ 0 → 897 ≤ field a → field a < 1150 → (P : Parts a) × (field a + 16 ≤ P.j + 897)
short_parts a fit z lo hi = (
  record {
    s = leb (2 ^ 63) b;
    m = m;
    j = field a - 881;
    value = rescale a (leb (2 ^ 63) b) ((2 ^ 52 + b % 2 ^ 52) * 2 ^ (field a - 1)) (2 ^ 1074) (m * 2 ^ (field a - 881)) (2 ^ 149) (pow_pos 1074) scaled
        (subst (λ (v : Float). HasValue v (leb (2 ^ 63) b) ((2 ^ 52 + b % 2 ^ 52) * 2 ^ (field a - 1)) (2 ^ 1074)) (of_bits-to_bits binary64 a fit) (normal_value binary64 b (field a - 1) (up_lt (field a) hi) (up_is (field a) lo)));
    short = short (b % 2 ^ 52);
    reach = far (field a) hi;
  },
  more (field a) lo,
)
  where
    b : ℕ
    b = to_bits binary64 a

    m : ℕ
    m = 2 ^ 7 + b % 2 ^ 52 / 2 ^ 45

    short : (t : ℕ) → 2 ^ 7 + b % 2 ^ 52 / 2 ^ 45 < 2 ^ 24
    short t = omega arith

    up_lt : (f : ℕ) → f < 1150 → suc (f - 1) < 2047
    up_lt f h = omega arith

    up_is : (f : ℕ) → 897 ≤ f → f ≡ suc (f - 1)
    up_is f h = omega arith

    far : (f : ℕ) → f < 1150 → f - 881 < 300
    far f h = omega arith

    more : (f : ℕ) → 897 ≤ f → f + 16 ≤ f - 881 + 897
    more f h = omega arith

    digits_are : (b : ℕ) → b % 2 ^ 45 ≡ 0 → 2 ^ 52 + b % 2 ^ 52 ≡ (2 ^ 7 + b % 2 ^ 52 / 2 ^ 45) * 2 ^ 45
    digits_are b h = omega arith

    shift : (f : ℕ) → 897 ≤ f → f - 881 + 1074 ≡ 45 + (f - 1) + 149
    shift f h = omega arith

    scaled : m * 2 ^ (field a - 881) * 2 ^ 1074 ≡ (2 ^ 52 + b % 2 ^ 52) * 2 ^ (field a - 1) * 2 ^ 149
    scaled =
        mul_assoc m (2 ^ (field a - 881)) (2 ^ 1074)
        ∙ ap (λ (y : ℕ). m * y) (sym (pow-add 2 (field a - 881) 1074) ∙ ap (λ (y : ℕ). 2 ^ y) (shift (field a) lo) ∙ pow-add 2 (45 + (field a - 1)) 149 ∙ ap (λ (y : ℕ). y * 2 ^ 149) (pow-add 2 45 (field a - 1)))
        ∙ sym (mul_assoc m (2 ^ 45 * 2 ^ (field a - 1)) (2 ^ 149))
        ∙ ap (λ (y : ℕ). y * 2 ^ 149) (sym (mul_assoc m (2 ^ 45) (2 ^ (field a - 1))) ∙ ap (λ (y : ℕ). y * 2 ^ (field a - 1)) (sym (digits_are b z)))

-- zero can be divided by any
pub zero_parts : (a : Float) → T (fits binary32 a) → T (finite a) → to_bits binary64 a % 2 ^ 63 ≡ 0 → (P : Parts a) × (P.j ≡ 299)
zero_parts a fit fine z =
    let P = parts_of_lem a fit fine in (
      record {
        s = P.s;
        m = 0;
        j = 299;
        value = subst (λ (y : ℕ). HasValue a P.s y (2 ^ 149)) (zero_value a fit z P ∙ sym (zero-mul (2 ^ 299))) P.value;
        short = lit< tt;
        reach = lit< tt;
      },
      refl,
    )
