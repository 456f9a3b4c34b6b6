-- Powers of ten as f64s, and a whole number multiplied or divided by one: up to 10 ^ 22 each is exact, so there is one rounding. Assumes nothing.
use Rattle.std.proofs.Common.{◌≡◌, ℕ, zero, suc, ◌+◌, ◌-◌, ◌*◌, ◌^◌, ◌<◌, ◌≤◌, Bool, true, false, pos, sym, refl, ap, ◌∙◌, true≢false, lt_of_lt_of_le, lt_of_le_of_lt, mul_assoc, mul_comm, mul-pos, pow-suc, zero-mul, mul-one, add-one, arith, lit<, pow_mono, pow-add, shl_lt, ne_eqb, le-leb}
use Rattle.std.specs.Prelude.{None, Some}
use native.Mathlib.Nat.{mul-mul-mul_comm, pow-le-pow_right, one-le-pow}
use lib.Ieee.{Float, nan, inf, fin, Format, binary64, up, down, unlike, round, mul, div, neg, of_int}
use lib.Ieee.Fits.{up_pos, down_pos}
use lib.Ieee.Exact.{HasValue, round_exact}
use lib.Ieee.Scale.{round_same}
use borrow.Author.Tests.{lt-leb}
use Rattle.rounding_laws.proofs.Fuse.{mul_value}
use Rattle.decimal.specs.Decimals.{scaled_by}

-- ---- powers of ten

ten_pow : (k : ℕ) → 10 ^ k ≡ 5 ^ k * 2 ^ k
ten_pow zero = refl
ten_pow (suc k) = rw (pow-suc 10 k, ten_pow k, pow-suc 5 k, pow-suc 2 k) (mul-mul-mul_comm (5 ^ k) (2 ^ k) 5 2)

pub ten_pos : (k : ℕ) → 0 < 10 ^ k
ten_pos k = one-le-pow k 10 (omega arith)

pub ten_exact : (k : ℕ) → k ≤ 22 → HasValue (of_int binary64 (pos (10 ^ k))) false (10 ^ k) 1
unfolding of_int
ten_exact k h =
    let small : 5 ^ k < 2 ^ 53 = lt_of_le_of_lt (pow-le-pow_right (omega arith) h) (lit< tt) in
    round_exact binary64 false (10 ^ k) 1 (5 ^ k) (k + 1074) (omega arith) small
    (lt_of_lt_of_le (shl_lt 53 (k + 1074) small) (pow_mono {i = 53 + (k + 1074)} {j = 2098} (omega arith)))
    (rw (ten_pow k, mul_assoc (5 ^ k) (2 ^ k) (2 ^ 1074), ← pow-add 2 k 1074, mul-one))

-- a turn of the loop; 10 as it is written in the code
pub tenfold : (k : ℕ) → k ≤ 22 → mul binary64 (of_int binary64 (pos (10 ^ k))) (fin false 5 (pos 1)) ≡ of_int binary64 (pos (10 ^ (k + 1)))
unfolding of_int
tenfold k h =
    mul_value false false (10 ^ k) 10 1 1 (omega arith) (omega arith) binary64 _ _ (ten_exact k h) (refl, refl)
    ∙ ap (λ (n : ℕ). round binary64 false n 1) (sym (ap (λ (j : ℕ). 10 ^ j) (add-one k) ∙ pow-suc 10 k))

-- ---- a quotient of whole numbers, by their values; of a product it is `mul_value`

some_digits : (n b u d : ℕ) → 0 < b → 0 < d → n * u * 1 ≡ b * d → 0 < n
some_digits zero b u d B D e = absurd (let p : 0 < b * d = mul-pos B D in let z : 0 * u * 1 ≡ 0 = ap (λ (j : ℕ). j * 1) (zero-mul u) in omega arith)
some_digits (suc n) b u d B D e = omega arith

cross : (M N F G a b : ℕ) → M * 1 ≡ a * F → N * 1 ≡ b * G → M * G * b ≡ a * (N * F)
cross M N F G a b h k =
    mul_assoc M G b ∙ ap (λ (i : ℕ). M * i) (mul_comm G b ∙ sym k ∙ mul-one N) ∙ ap (λ (i : ℕ). i * N) (sym (mul-one M) ∙ h)
    ∙ mul_assoc a F N ∙ ap (λ (i : ℕ). a * i) (mul_comm F N)

like : (s : Bool) → unlike s false ≡ s
like true = refl
like false = refl

div_whole : (f : Format) (s : Bool) (a b : ℕ) → 0 < b → (x y : Float) → HasValue x s a 1 → HasValue y false b 1 → div f x y ≡ round f s a b
unfolding div
div_whole f s a b B nan y p q = absurd p
div_whole f s a b B (inf i) y p q = absurd p
div_whole f s a b B (fin i m e) nan p q = absurd q
div_whole f s a b B (fin i m e) (inf j) p q = absurd q
div_whole f s a b B (fin i m e) (fin j n d) p q =
    let some-n = some_digits n b (up d) (down d) B (down_pos d) q.1 in
    rw (ne_eqb n 0 (omega arith))
    ((λ w. round f (unlike (p.0 w) (q.0 w)) (m * up e * down d) (n * up d * down e))
    ∙ round_same f (unlike s false) (m * up e * down d) (n * up d * down e) a b (mul-pos (mul-pos some-n (up_pos d)) (down_pos e)) B
    (cross (m * up e) (n * up d) (down e) (down d) a b p.1 q.1)
    ∙ ap (λ (t : Bool). round f t a b) (like s))

-- ---- digits and tens

module _ (minus : Bool) (d : ℕ) (x : Float) (v : HasValue x minus d 1) (k : ℕ) (h : k ≤ 22) where
  multiplied : mul binary64 x (of_int binary64 (pos (10 ^ k))) ≡ round binary64 minus (d * 10 ^ k) 1
  multiplied = mul_value minus false d (10 ^ k) 1 1 (omega arith) (omega arith) binary64 x _ v (ten_exact k h) ∙ ap (λ (s : Bool). round binary64 s (d * 10 ^ k) 1) (like minus)

  divided : div binary64 x (of_int binary64 (pos (10 ^ k))) ≡ round binary64 minus d (10 ^ k)
  divided = div_whole binary64 minus d (10 ^ k) (ten_pos k) x _ v (ten_exact k h)

module _ (minus : Bool) (d up down : ℕ) where
  within : up ≤ down + 22 → down ≤ up + 22 → scaled_by minus d up down ≡ Some (round binary64 minus (d * 10 ^ up) (10 ^ down))
  unfolding scaled_by
  within g h = rw (le-leb up (down + 22) g, le-leb down (up + 22) h)

  pub too_high : 22 < up - down → scaled_by minus d up down ≡ None
  unfolding scaled_by
  too_high h = rw (lt-leb up (down + 22) (omega arith))

  pub too_low : 22 < down - up → scaled_by minus d up down ≡ None
  unfolding scaled_by
  too_low h = rw (le-leb up (down + 22) (omega arith), lt-leb down (up + 22) (omega arith))

  module _ (x : Float) (v : HasValue x minus d 1) where
    pub raised : down ≤ up → up - down ≤ 22 → scaled_by minus d up down ≡ Some (mul binary64 x (of_int binary64 (pos (10 ^ (up - down)))))
    raised le h =
        let k = up - down in
        let sum : up ≡ k + down = omega arith in
        within (omega arith) (omega arith)
        ∙ ap Some (round_same binary64 minus (d * 10 ^ up) (10 ^ down) (d * 10 ^ k) 1 (ten_pos down) (omega arith)
        (mul-one (d * 10 ^ up) ∙ ap (λ (j : ℕ). d * 10 ^ j) sum ∙ ap (λ (j : ℕ). d * j) (pow-add 10 k down) ∙ sym (mul_assoc d (10 ^ k) (10 ^ down)))
        ∙ sym (multiplied minus d x v k h))

    pub lowered : up < down → down - up ≤ 22 → scaled_by minus d up down ≡ Some (div binary64 x (of_int binary64 (pos (10 ^ (down - up)))))
    lowered lt h =
        let k = down - up in
        let sum : up + k ≡ down = omega arith in
        within (omega arith) (omega arith)
        ∙ ap Some (round_same binary64 minus (d * 10 ^ up) (10 ^ down) d (10 ^ k) (ten_pos down) (ten_pos k)
        (mul_assoc d (10 ^ up) (10 ^ k) ∙ ap (λ (j : ℕ). d * j) (sym (pow-add 10 up k) ∙ ap (λ (j : ℕ). 10 ^ j) sum))
        ∙ sym (divided minus d x v k h))

-- a whole number up to 2 ^ 53 with a sign
pub negated : (x : Float) (d : ℕ) → HasValue x false d 1 → HasValue (neg x) true d 1
unfolding neg
negated nan d v = v
negated (inf s) d v = v
negated (fin false m e) d v = (refl, v.1)
negated (fin true m e) d v = absurd (true≢false v.0)
