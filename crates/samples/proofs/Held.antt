-- Every factor of an exponential sample is a value of an f64, so that a product with it is one with the f64 that holds it. Assumes nothing.
use Rattle.std.proofs.Common.{◌≡◌, ℕ, zero, suc, ◌+◌, ◌-◌, ◌*◌, ◌/◌, ◌%◌, ◌^◌, ◌<◌, ◌≤◌, Bool, true, false, cond, eqb, ltb, leb, ℤ, pos, negsuc, ◌+ℤ◌, sym, refl, ap, ◌∙◌, le_of_eq, lt_of_le_of_lt, mul-le-mul_right, zero-lt-suc, mul_assoc, mul_comm, mul-pos, zero-mul, mul-one, suc-ne-zero, mul_left_comm, arith, pow_pos, pow-add, ne_eqb, leb-false}
use lib.Pow.{pow-lt}
use lib.Ieee.{Float, nan, inf, fin, Format, binary64, unlike, up, down, round, mul}
use lib.Ieee.Fits.{up_pos, down_pos}
use lib.Ieee.Exact.{HasValue, round_exact}
use lib.Ieee.Scale.{round_same}
use Rattle.rules.specs.Numbers.{plus_zero}
use Rattle.rules.specs.Kernels.{parts, falling}
use Rattle.rules.specs.Samples.{floor_of, power_of, power, factor_of}
use Rattle.kernels.proofs.Falling.{falling_range}
use Rattle.samples.specs.At.{held}

-- ---- values equal as numbers have equal products

zero_alike : (k n a b c d : ℕ) → 0 < a → 0 < b → 0 < c → 0 < d → k * a * b ≡ n * c * d → eqb k 0 ≡ eqb n 0
zero_alike zero zero a b c d A B C D e = refl
zero_alike zero (suc n) a b c d A B C D e = absurd (omega (arith, mul-pos (mul-pos (zero-lt-suc n) C) D, ap (λ (x : ℕ). x * b) (zero-mul a), zero-mul b))
zero_alike (suc k) zero a b c d A B C D e = absurd (omega (arith, mul-pos (mul-pos (zero-lt-suc k) A) B, ap (λ (x : ℕ). x * d) (zero-mul c), zero-mul d))
zero_alike (suc k) (suc n) a b c d A B C D e = ne_eqb (suc k) 0 (suc-ne-zero k) ∙ sym (ne_eqb (suc n) 0 (suc-ne-zero n))

crossed : (a b c p q r : ℕ) → a * q ≡ b * r → p * a * (c * q) ≡ p * b * (c * r)
crossed a b c p q r e = move a q ∙ ap (λ (x : ℕ). p * c * x) e ∙ sym (move b r)
  where
    move : (x y : ℕ) → p * x * (c * y) ≡ p * c * (x * y)
    move x y = simp (mul_assoc, mul_comm, mul_left_comm)

pub mul_same : (f : Format) (x y : Float) (s : Bool) (n : ℕ) (d : ℤ) → HasValue y s (n * up d) (down d) → mul f x y ≡ mul f x (fin s n d)
unfolding mul
mul_same f x nan s n d v = absurd v
mul_same f x (inf t) s n d v = absurd v
mul_same f nan (fin t k g) s n d v = refl
mul_same f (inf u) (fin t k g) s n d v =
    rw (v.0, zero_alike k n (up g) (down d) (up d) (down g) (up_pos g) (down_pos d) (up_pos d) (down_pos g) v.1)
mul_same f (fin u m e) (fin t k g) s n d v =
    ap (λ (z : Bool). round f (unlike u z) (m * up e * (k * up g)) (down e * down g)) v.0
    ∙ round_same f (unlike u s) (m * up e * (k * up g)) (down e * down g) (m * up e * (n * up d)) (down e * down d) (mul-pos (down_pos e) (down_pos g)) (mul-pos (down_pos e) (down_pos d))
    (crossed (k * up g) (n * up d) (down e) (m * up e) (down d) (down g) v.1)

-- ---- what an f64 holds exactly

abbrev Exact : Float → Type 0
Exact nan = Unit {0}
Exact (inf s) = Unit {0}
Exact (fin s m e) = HasValue (held (fin s m e)) s (m * up e) (down e)

held_mul : (x z : Float) → Exact z → mul binary64 x (held z) ≡ mul binary64 x z
held_mul x nan h = unfold held in refl
held_mul x (inf s) h = unfold held in refl
held_mul x (fin s m e) h = mul_same binary64 x (held (fin s m e)) s m e h

-- e is not far from 0
abbrev Near : ℕ → ℤ → Type 0
Near n (pos k) = k ≤ n
Near n (negsuc k) = k ≤ n

room : (m j : ℕ) → m ≤ 2 ^ 32 → j < 2000 → m * 2 ^ j < 2 ^ 2098
room m j M J = lt_of_le_of_lt (mul-le-mul_right (2 ^ j) M) (lt_of_le_of_lt (le_of_eq (sym (pow-add 2 32 j))) (pow-lt {i = 32 + j} {j = 2098} (omega arith)))

exact : (m : ℕ) (e : ℤ) → m ≤ 2 ^ 32 → Near 400 e → Exact (fin false m e)
unfolding held
exact m (pos k) M h =
    round_exact binary64 false (m * 2 ^ k) 1 m (k + 1074) (omega arith) (omega arith) (room m (k + 1074) M (omega arith))
    (mul_assoc m (2 ^ k) (2 ^ 1074) ∙ ap (λ (x : ℕ). m * x) (sym (pow-add 2 k 1074)) ∙ sym (mul-one (m * 2 ^ (k + 1074))))
exact m (negsuc k) M h =
    let e : 1074 ≡ 1073 - k + suc k = omega arith in
    round_exact binary64 false (m * 1) (2 ^ suc k) m (1073 - k) (pow_pos (suc k)) (omega arith) (room m (1073 - k) M (omega arith))
    (ap (λ (x : ℕ). x * 2 ^ 1074) (mul-one m) ∙ ap (λ (x : ℕ). m * x) (ap (λ (x : ℕ). 2 ^ x) e ∙ pow-add 2 (1073 - k) (suc k)) ∙ sym (mul_assoc m (2 ^ (1073 - k)) (2 ^ suc k)))

-- ---- every factor

near_part : (q : ℤ) → Near 300 q → Near 400 (q +ℤ negsuc 30)
near_part (pos k) h = go (ltb k 31) refl
  where
    go : (b : Bool) → ltb k 31 ≡ b → Near 400 (cond b (negsuc (31 - suc k)) (pos (k - 31)))
    go true e = omega arith
    go false e = omega arith
near_part (negsuc k) h = omega arith

near_whole : (q : ℤ) → Near 300 q → Near 400 q
near_whole (pos k) h = omega arith
near_whole (negsuc k) h = omega arith

exact_turn : (q : ℤ) (f : ℕ) → Near 300 q → f < parts → Exact (power_of q f)
unfolding power_of
exact_turn q zero h F = exact 1 q (omega arith) (near_whole q h)
exact_turn q (suc f) h F = exact (falling (parts - suc f)) (q +ℤ negsuc 30) (falling_range (parts - suc f) (omega arith)).1 (near_part q h)

exact_power : (p : ℤ) → Exact (power p)
unfolding power
exact_power (pos p) = go (leb (256 * parts) p) refl
  where
    go : (b : Bool) → leb (256 * parts) p ≡ b → Exact (cond b (inf false) (power_of (pos (p / parts)) (p % parts)))
    go true e = tt
    go false e = let l : p < 256 * parts = leb-false (256 * parts) p e in exact_turn (pos (p / parts)) (p % parts) (omega arith) (omega arith)
exact_power (negsuc p) = go (leb (300 * parts) (suc p)) refl
  where
    go : (b : Bool) → leb (300 * parts) (suc p) ≡ b → Exact (cond b plus_zero (power_of (negsuc (p / parts)) (parts - 1 - p % parts)))
    go true e = exact 0 (pos 0) (omega arith) (omega arith)
    go false e = let l : suc p < 300 * parts = leb-false (300 * parts) (suc p) e in exact_turn (negsuc (p / parts)) (parts - 1 - p % parts) (omega arith) (omega arith)

exact_factor : (x : Float) → Exact (factor_of x)
unfolding factor_of
exact_factor nan = tt
exact_factor (inf true) = exact 0 (pos 0) (omega arith) (omega arith)
exact_factor (inf false) = tt
exact_factor (fin s m e) = exact_power (floor_of s (m * up e) (down e))

pub factor_mul : (x z : Float) → mul binary64 x (held (factor_of z)) ≡ mul binary64 x (factor_of z)
factor_mul x z = held_mul x (factor_of z) (exact_factor z)
