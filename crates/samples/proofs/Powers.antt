-- The factor of an exponential sample: as an f64 holds it, and P by the whole part of a float. Assumes nothing.
use Rattle.std.proofs.Common.{◌≡◌, ℕ, zero, suc, ◌+◌, ◌-◌, ◌*◌, ◌/◌, ◌%◌, ◌^◌, ◌<◌, ◌≤◌, false, ◌⊎◌, ℤ, pos, negsuc, ◌+ℤ◌, neg_ℤ, sym, refl, ◌∙◌, inl, inr, ⊎_elim, one-mul, arith, pow_pos, pow-add, le-leb}
use borrow.Author.Tests.{lt-leb}
use lib.IntN.{sub_ℕ}
use lib.Ieee.{inf, fin, binary64, up, down, round}
use lib.Ieee.Fits.{down_pos}
use lib.Ieee.Scale.{round_same}
use Rattle.rules.specs.Numbers.{plus_zero}
use Rattle.rules.specs.Kernels.{parts, falling}
use Rattle.rules.specs.Samples.{power_of, power}
use Rattle.kernels.proofs.Falling.{falling_none}
use Rattle.samples.specs.At.{held}
use Rattle.phases.proofs.Less.{sub_value}
use Rattle.samples.proofs.Moved.{moved}

-- ---- the two cases of a power

eq_or_above : (n : ℕ) → (n ≡ 0) ⊎ (0 < n)
eq_or_above zero = inl refl
eq_or_above (suc n) = inr (omega arith)

whole-turn : (q : ℤ) (f : ℕ) → f ≡ 0 → power_of q f ≡ fin false 1 q
unfolding power_of
whole-turn q zero e = refl
whole-turn q (suc f) e = absurd (omega arith)

pub part-turn : (q : ℤ) (f : ℕ) → 0 < f → power_of q f ≡ fin false (falling (parts - f)) (q +ℤ negsuc 30)
unfolding power_of
part-turn q zero h = absurd (omega arith)
part-turn q (suc f) h = refl

held_at_lem : (m a b : ℕ) → held (fin false m (sub_ℕ a b)) ≡ round binary64 false (m * 2 ^ a) (2 ^ b)
unfolding held
held_at_lem m a b =
    round_same binary64 false (m * up (sub_ℕ a b)) (down (sub_ℕ a b)) (m * 2 ^ a) (2 ^ b) (down_pos (sub_ℕ a b)) (pow_pos b) (sub_value m a b)

-- ---- P from 0

module _ (n : ℕ) where
  pub far_up : 256 * parts ≤ n → inf false ≡ held (power (pos n))
  unfolding power held
  far_up h = rw (le-leb (256 * parts) n h)

  module _ (h : n < 256 * parts) where
    near_up : power (pos n) ≡ power_of (pos (n / parts)) (n % parts)
    unfolding power
    near_up = rw (lt-leb (256 * parts) n h)

    pub rise_whole : n % parts ≡ 0 → round binary64 false (1 * 2 ^ (n / parts + 1139)) (2 ^ 1139) ≡ held (power (pos n))
    unfolding held
    rise_whole e = rw (near_up, whole-turn (pos (n / parts)) (n % parts) e) (moved binary64 false 1 (n / parts + 1139) 1139 (n / parts) 0 (omega arith))

    pub rise_part : 0 < n % parts → round binary64 false (falling (parts - n % parts) * 2 ^ (n / parts + 1108)) (2 ^ 1139) ≡ held (power (pos n))
    rise_part e =
        rw (near_up, part-turn (pos (n / parts)) (n % parts) e)
        (moved binary64 false (falling (parts - n % parts)) (n / parts + 1108) 1139 (n / parts) 31 (omega arith) ∙ sym (held_at_lem (falling (parts - n % parts)) (n / parts) 31))

-- ---- P from 0 down

-- r(0) / 2 ^ (32 + k)
none_turn : (k : ℕ) → k ≤ 301 → round binary64 false (falling 0 * 2 ^ (1107 - k)) (2 ^ 1139) ≡ round binary64 false 1 (2 ^ k)
none_turn k h =
    rw falling_none
    (moved binary64 false (2 ^ 32) (1107 - k) 1139 0 (32 + k) (omega arith)
    ∙ round_same binary64 false (2 ^ 32 * 1) (2 ^ (32 + k)) 1 (2 ^ k) (pow_pos (32 + k)) (pow_pos k) (sym (pow-add 2 32 k) ∙ sym (one-mul (2 ^ (32 + k)))))

module _ (p : ℕ) where
  pub far_down : 300 * parts ≤ suc p → plus_zero ≡ held (power (negsuc p))
  unfolding power held round
  far_down h = rw (le-leb (300 * parts) (suc p) h)

  module _ (h : suc p < 300 * parts) where
    abbrev q : ℕ
    q = p / parts

    abbrev f : ℕ
    f = parts - 1 - p % parts

    near_down : power (negsuc p) ≡ power_of (negsuc q) f
    unfolding power
    near_down = rw (lt-leb (300 * parts) (suc p) h)

    fell_whole : f ≡ 0 → round binary64 false (falling (suc p % parts) * 2 ^ (1107 - suc p / parts)) (2 ^ 1139) ≡ held (power (negsuc p))
    unfolding held
    fell_whole e =
        let a : suc p % parts ≡ 0 = omega arith in
        let b : suc p / parts ≡ suc q = omega arith in
        rw (near_down, whole-turn (negsuc q) f e, a, b) (none_turn (suc q) (omega arith))

    fell_part : 0 < f → round binary64 false (falling (suc p % parts) * 2 ^ (1107 - suc p / parts)) (2 ^ 1139) ≡ held (power (negsuc p))
    unfolding held
    fell_part e =
        let a : parts - f ≡ suc p % parts = omega arith in
        let b : suc p / parts ≡ q = omega arith in
        rw (near_down, part-turn (negsuc q) f e, a, b) (moved binary64 false (falling (suc p % parts)) (1107 - q) 1139 0 (suc (suc (q + 30))) (omega arith))

    fell : round binary64 false (falling (suc p % parts) * 2 ^ (1107 - suc p / parts)) (2 ^ 1139) ≡ held (power (negsuc p))
    fell = ⊎_elim fell_whole fell_part (eq_or_above f)

pub far : (n : ℕ) → 300 * parts ≤ n → plus_zero ≡ held (power (neg_ℤ (pos n)))
far zero h = absurd (omega arith)
far (suc p) h = far_down p h

pub near : (n : ℕ) → n < 300 * parts → round binary64 false (falling (n % parts) * 2 ^ (1107 - n / parts)) (2 ^ 1139) ≡ held (power (neg_ℤ (pos n)))
near zero h = none_turn 0 (omega arith) ∙ (unfold power power_of held in refl)
near (suc p) h = fell p h
