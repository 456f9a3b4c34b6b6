-- A number in millionths, to the nearest: what code with 64 bits makes of it, by whole part and rest and by two halves. Assumes nothing.
use Rattle.std.proofs.Common.{Option, None, Some, ◌≡◌, ℕ, zero, suc, ◌+◌, ◌-◌, ◌*◌, ◌/◌, ◌%◌, ◌^◌, ◌<◌, ◌≤◌, Bool, true, false, cond, ◌&&◌, ◌||◌, eqb, ltb, ◌⊎◌, pos, sym, refl, ap, ◌∙◌, subst, inl, inr, true≢false, le_trans, lt_of_lt_of_le, le_of_lt, mul-le-mul_right, mod-eq_of_lt, mul_assoc, add-sub_of_le, lt_of_mul-lt-mul_right, mul-le-mul_left, mul-lt-mul_of_pos_right, mul-pos, one-mul, div-add-mod', le-div_iff_mul-le, zero-mul, mul-one, sub-add_cancel, mul_right_comm, arith, pow_pos, pow_mono, pow-add, shl_lt, ltb-false, ltb-true, le-ltb, lt-ltb, eq-eqb, ne_eqb, eqb-true}
use Prim.Native.Nat.{compare, Ordering}
use native.Mathlib.Nat.{add-mul-div_right, add-mul-mod_self_right}
use lib.Ieee.{Float, nan, inf, fin, up, down, nearest, lt, eq, ne}
use lib.Ieee.Fits.{down_pos}
use lib.Ieee.Exact.{HasValue}
use lib.Ieee.Nearest.{closest, closest_same}
use lib.Ieee.Scale.{finite}
use borrow.Author.Tests.{eqb-false}
use Rattle.rounding_laws.proofs.Sticky.{closest_between, stuck_closest}
use Rattle.decimal.specs.declared.write.Printed.{Printed}
use Rattle.decimal.specs.Shown.{millionths, shown_as, shown}

-- ---- an even number of units beside a rest

nearest_add : (q w : ℕ) (o : Ordering) → nearest (q * 2 + w) o ≡ q * 2 + nearest w o
nearest_add q w Ordering.lt = refl
nearest_add q w Ordering.eq = omega arith
nearest_add q w Ordering.gt = omega arith

closest_add : (q a b : ℕ) → 0 < b → closest (a + q * 2 * b) b ≡ q * 2 + closest a b
closest_add q a b B =
    let d : (a + q * 2 * b) / b ≡ q * 2 + a / b = add-mul-div_right a (q * 2) B ∙ omega arith in
    let m : (a + q * 2 * b) % b ≡ a % b = add-mul-mod_self_right a (q * 2) b in
    (λ w. nearest (d w) (compare (m w * 2) b)) ∙ nearest_add q (a / b) (compare (a % b * 2) b)

-- a whole number is its own
closest_whole : (w b : ℕ) → 0 < b → closest (w * b) b ≡ w
closest_whole w b B = closest_between (w * b) b w B (omega arith) (omega arith)

-- ---- m / 2 ^ k, for a k from 33 on, by the product's two halves

module _ (m k : ℕ) (h : 33 ≤ k) where
  abbrev low : ℕ
  low = m % 4294967296 * 1000000

  abbrev high : ℕ
  high = m / 4294967296 * 1000000 + low / 4294967296

  product : m * 1000000 ≡ high * 4294967296 + low % 4294967296
  product = omega arith

  halved : 2147483648 * 2 ^ (k - 31) ≡ 2 ^ k
  halved = sym (pow-add 2 31 (k - 31)) ∙ ap (λ (j : ℕ). 2 ^ j) (add-sub_of_le (omega arith))

  pub no_rest : low % 4294967296 ≡ 0 → closest (high * 2) (2 ^ (k - 31)) ≡ closest (m * 1000000) (2 ^ k)
  no_rest z =
      let p = product in
      let e : high * 2 * 2147483648 ≡ m * 1000000 = omega arith in
      closest_same (high * 2) (2 ^ (k - 31)) (m * 1000000) (2 ^ k) (pow_pos (k - 31)) (pow_pos k)
      (ap (λ (x : ℕ). high * 2 * x) (sym halved) ∙ sym (mul_assoc (high * 2) 2147483648 (2 ^ (k - 31))) ∙ ap (λ (x : ℕ). x * 2 ^ (k - 31)) e)

  pub some_rest : (low % 4294967296 ≡ 0 → ⊥) → closest (high * 2 + 1) (2 ^ (k - 31)) ≡ closest (m * 1000000) (2 ^ k)
  some_rest z =
      let p = product in
      let j : suc (suc (k - 33)) ≡ k - 31 = omega arith in
      sym (subst (λ (i : ℕ). closest (m * 1000000) (2147483648 * 2 ^ i) ≡ closest (high * 2 + 1) (2 ^ i)) j
      (stuck_closest (high * 2 + 1) (m * 1000000) 2147483648 (omega arith) (omega arith) (omega (arith, z)) (k - 33) (omega arith)))
      ∙ ap (closest (m * 1000000)) halved

-- ---- m / b by its whole part and the rest

pub whole_off : (m b : ℕ) → 0 < b → closest (m * 1000000) b ≡ m / b * 1000000 + closest (m % b * 1000000) b
whole_off m b B =
    let q = m / b in
    let r = m % b in
    let units : q * 500000 * 2 * b ≡ q * b * 1000000 = ap (λ (x : ℕ). x * b) (mul_assoc q 500000 2) ∙ mul_right_comm q 1000000 b in
    let all : q * b + r ≡ m = div-add-mod' m b in
    let parts : m * 1000000 ≡ r * 1000000 + q * 500000 * 2 * b = omega arith in
    ap (λ (x : ℕ). closest x b) parts ∙ closest_add (q * 500000) (r * 1000000) b B ∙ omega arith

-- ---- what is shown

abbrev decimal_of : Bool → ℕ → ℕ → Option Printed
decimal_of minus whole n = Some (Printed.Decimal minus whole n)

or_true : (b : Bool) → b || true ≡ true
or_true true = refl
or_true false = refl

and_false : (b : Bool) → b && false ≡ false
and_false true = refl
and_false false = refl

module _ (minus : Bool) (num den : ℕ) where
  pub decimal : (n : ℕ) → n ≡ closest (num * 1000000) den → num < 2 ^ 64 * den → 0 < n → decimal_of minus (n / 1000000) (n % 1000000) ≡ shown_as minus num den
  unfolding shown_as millionths
  decimal n e h p = rw (← e, lt-ltb num (2 ^ 64 * den) h, lt-ltb 0 n p, or_true (eqb num 0))

  pub too_large : 2 ^ 64 * den ≤ num → None ≡ shown_as minus num den
  unfolding shown_as
  too_large h = rw (le-ltb num (2 ^ 64 * den) h)

  pub too_small : 0 < num → closest (num * 1000000) den ≡ 0 → None ≡ shown_as minus num den
  unfolding shown_as millionths
  too_small p e = rw (e, ne_eqb num 0 (omega arith), and_false (ltb num (2 ^ 64 * den)))

-- a zero, of whatever denominator
pub zero_shown : (minus : Bool) (den : ℕ) → 0 < den → decimal_of minus 0 0 ≡ shown_as minus 0 den
unfolding shown_as millionths
zero_shown minus den D =
    let none : closest 0 den ≡ 0 = ap (λ (x : ℕ). closest x den) (sym (zero-mul den)) ∙ closest_whole 0 den D in
    rw (none, lt-ltb 0 (2 ^ 64 * den) (mul-pos (pow_pos 64) D))

-- ---- equal fractions are shown alike

module _ (a b c d : ℕ) (B : 0 < b) (D : 0 < d) (e : a * d ≡ c * b) where
  below_too : (M : ℕ) → a < M * b → c < M * d
  below_too M h =
      lt_of_mul-lt-mul_right b (subst (λ (x : ℕ). x < M * d * b) e (subst (λ (x : ℕ). a * d < x) (mul_right_comm M b d) (mul-lt-mul_of_pos_right h D)))

  zero_too : a ≡ 0 → c ≡ 0
  zero_too z = by_size c (sym e ∙ ap (λ (x : ℕ). x * d) z ∙ zero-mul d)
    where
      by_size : (c : ℕ) → c * b ≡ 0 → c ≡ 0
      by_size zero h = refl
      by_size (suc c) h = absurd (omega (arith, mul-pos {m = suc c} {n = b} (omega arith) B))

  alike : millionths a b ≡ millionths c d
  unfolding millionths
  alike = closest_same (a * 10 ^ 6) b (c * 10 ^ 6) d B D (mul_right_comm a (10 ^ 6) d ∙ ap (λ (x : ℕ). x * 10 ^ 6) e ∙ mul_right_comm c b (10 ^ 6))

module _ (a b c d : ℕ) (B : 0 < b) (D : 0 < d) (e : a * d ≡ c * b) where
  same_below : ltb a (2 ^ 64 * b) ≡ ltb c (2 ^ 64 * d)
  same_below = by_test (ltb a (2 ^ 64 * b)) refl
    where
      by_test : (t : Bool) → ltb a (2 ^ 64 * b) ≡ t → t ≡ ltb c (2 ^ 64 * d)
      by_test true h = sym (lt-ltb c (2 ^ 64 * d) (below_too a b c d B D e (2 ^ 64) (ltb-true a (2 ^ 64 * b) h)))
      by_test false h = by_other (ltb c (2 ^ 64 * d)) refl
        where
          by_other : (t : Bool) → ltb c (2 ^ 64 * d) ≡ t → false ≡ t
          by_other true k = absurd (omega (arith, ltb-false a (2 ^ 64 * b) h, below_too c d a b D B (sym e) (2 ^ 64) (ltb-true c (2 ^ 64 * d) k)))
          by_other false k = refl

  same_zero : eqb a 0 ≡ eqb c 0
  same_zero = by_test (eqb a 0) refl
    where
      by_test : (t : Bool) → eqb a 0 ≡ t → t ≡ eqb c 0
      by_test true h = sym (eq-eqb c 0 (zero_too a b c d B D e (eqb-true a 0 h)))
      by_test false h = sym (ne_eqb c 0 (λ z. eqb-false a 0 h (zero_too c d a b D B (sym e) z)))

  pub shown-same : (minus : Bool) → shown_as minus a b ≡ shown_as minus c d
  unfolding shown_as
  shown-same minus =
      let n = alike a b c d B D e in
      λ w. cond (same_below w && (same_zero w || ltb 0 (n w))) (decimal_of minus (n w / 10 ^ 6) (n w % 10 ^ 6)) None

-- ---- by the size of the exponent

module _ (minus : Bool) (m : ℕ) (most : m < 2 ^ 53) where
  -- the whole part taken off, and carried into where the rest rounds up to a whole one
  pub coarse_shown : (k n : ℕ) → 2 ^ 52 ≤ m → k ≤ 32 → n ≡ closest (m % 2 ^ k * 1000000) (2 ^ k) → decimal_of minus (m / 2 ^ k + n / 1000000) (n % 1000000) ≡ shown_as minus m (2 ^ k)
  coarse_shown k n least h e =
      let q = m / 2 ^ k in
      let all : q * 1000000 + n ≡ closest (m * 1000000) (2 ^ k) = ap (λ (x : ℕ). q * 1000000 + x) e ∙ sym (whole_off m (2 ^ k) (pow_pos k)) in
      let some-whole : 1 ≤ q = (le-div_iff_mul-le (pow_pos k)).1 (le_trans (subst (λ (x : ℕ). x ≤ 2 ^ 32) (sym (one-mul (2 ^ k))) (pow_mono h)) (omega arith)) in
      let whole : q + n / 1000000 ≡ (q * 1000000 + n) / 1000000 = omega arith in
      let rest : n % 1000000 ≡ (q * 1000000 + n) % 1000000 = omega arith in
      (λ w. decimal_of minus (whole w) (rest w))
      ∙ decimal minus m (2 ^ k) (q * 1000000 + n) all (lt_of_lt_of_le most (le_trans (omega arith) (mul-le-mul_left (2 ^ 64) (pow_pos k)))) (omega arith)

  pub fine_shown : (k n : ℕ) → n ≡ closest (m * 1000000) (2 ^ k) → 0 < n → decimal_of minus (n / 1000000) (n % 1000000) ≡ shown_as minus m (2 ^ k)
  fine_shown k n e p = decimal minus m (2 ^ k) n e (lt_of_lt_of_le most (le_trans (omega arith) (mul-le-mul_left (2 ^ 64) (pow_pos k)))) p

  pub tiny_shown : (k : ℕ) → 0 < m → 73 < k → None ≡ shown_as minus m (2 ^ k)
  tiny_shown k p h =
      let far : 2 ^ 74 ≤ 2 ^ k = pow_mono h in
      too_small minus m (2 ^ k) p (closest_between (m * 1000000) (2 ^ k) 0 (pow_pos k) (omega arith) (omega arith))

  pub huge_shown : (j : ℕ) → (2 ^ 52 ≤ m) ⊎ (j ≡ 0) → 1085 < j → None ≡ shown_as minus (m * 2 ^ j) (2 ^ 1074)
  huge_shown j lead h = too_large minus (m * 2 ^ j) (2 ^ 1074) (le_trans (mul-le-mul_right (2 ^ 1086) (least lead)) (mul-le-mul_left m (pow_mono {i = 1086} {j = j} h)))
    where
      least : (2 ^ 52 ≤ m) ⊎ (j ≡ 0) → 2 ^ 52 ≤ m
      least (inl g) = g
      least (inr z) = absurd (omega arith)

  pub whole-shown : (j : ℕ) → 0 < m → 1074 ≤ j → j ≤ 1085 → decimal_of minus (m * 2 ^ (j - 1074) % 2 ^ 64) 0 ≡ shown_as minus (m * 2 ^ j) (2 ^ 1074)
  whole-shown j p h g =
      let k = j - 1074 in
      let w = m * 2 ^ k in
      let small : w < 2 ^ 64 = lt_of_lt_of_le (shl_lt 53 k most) (pow_mono {i = 53 + k} {j = 64} (omega arith)) in
      let some-w : 0 < w = mul-pos p (pow_pos k) in
      let back : w * 2 ^ 1074 ≡ m * 2 ^ j * 1 =
      mul_assoc m (2 ^ k) (2 ^ 1074) ∙ ap (λ (x : ℕ). m * x) (sym (pow-add 2 k 1074) ∙ ap (λ (i : ℕ). 2 ^ i) (sub-add_cancel h)) ∙ sym (mul-one (m * 2 ^ j)) in
      let whole : w % 2 ^ 64 ≡ w * 1000000 / 1000000 = mod-eq_of_lt small ∙ omega arith in
      let rest : 0 ≡ w * 1000000 % 1000000 = omega arith in
      (λ i. decimal_of minus (whole i) (rest i))
      ∙ decimal minus w 1 (w * 1000000) (sym (ap (λ (x : ℕ). closest x 1) (sym (mul-one (w * 1000000))) ∙ closest_whole (w * 1000000) 1 (omega arith))) (omega arith) (omega arith)
      ∙ shown-same w 1 (m * 2 ^ j) (2 ^ 1074) (omega arith) (pow_pos 1074) back minus

pub parted_shown : (minus : Bool) (m j : ℕ) → j < 1074 → shown_as minus m (2 ^ (1074 - j)) ≡ shown_as minus (m * 2 ^ j) (2 ^ 1074)
parted_shown minus m j h =
    shown-same m (2 ^ (1074 - j)) (m * 2 ^ j) (2 ^ 1074) (pow_pos (1074 - j)) (pow_pos 1074)
    (ap (λ (x : ℕ). m * x) (ap (λ (i : ℕ). 2 ^ i) (sym (add-sub_of_le (le_of_lt h))) ∙ pow-add 2 j (1074 - j)) ∙ sym (mul_assoc m (2 ^ j) (2 ^ (1074 - j)))) minus

-- ---- a float by its value

pub value_shown : (x : Float) (s : Bool) (a c : ℕ) → 0 < c → HasValue x s a c → shown_as s a c ≡ shown x
unfolding shown
value_shown nan s a c C v = absurd v
value_shown (inf t) s a c C v = absurd v
value_shown (fin t m e) s a c C v = ap (λ (b : Bool). shown_as b a c) (sym v.0) ∙ shown-same a c (m * up e) (down e) C (down_pos e) (sym v.1) t

pub infinite_shown : (x : Float) → ne x x ≡ false → finite x ≡ false → Some (Printed.Infinite (lt x (fin false 0 (pos 0)))) ≡ shown x
unfolding shown lt ne eq
infinite_shown nan n f = absurd (true≢false n)
infinite_shown (inf s) n f = refl
infinite_shown (fin s m e) n f = absurd (true≢false f)
