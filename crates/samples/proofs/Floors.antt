-- P, the whole number next below a float, by the whole part of its magnitude. Assumes nothing.
use Rattle.std.proofs.Common.{◌≡◌, ℕ, zero, suc, ◌+◌, ◌-◌, ◌*◌, ◌/◌, ◌^◌, ◌<◌, ◌≤◌, min, Bool, true, false, leb, ℤ, pos, neg_ℤ, sym, refl, ap, ◌∙◌, true≢false, le_trans, le_of_eq, le-add_right, lt_of_le_of_lt, le_of_lt, add-mul, lt_of_mul-lt-mul_right, le-div_iff_mul-le, zero-mul, mul-one, mul_right_comm, div-mul-le_self, le_of_mul-le-mul_right, arith, ltb-false, ltb-true, leb-false, leb-true}
use mathlib.Core.Bool.{false≢true}
use native.Mathlib.Nat.{lt-div-mul-add, div-eq_of_lt, div-eq_of_lt-le, min-eq_left, min-eq_right, min-le_left}
use lib.Ieee.{Float, nan, inf, fin, binary64, up, down, neg, lt, ne, round, of_int, to_unsigned}
use lib.Ieee.Fits.{down_pos}
use lib.Ieee.Compare.{nan_differs}
use lib.Ieee.Exact.{HasValue}
use lib.Ieee.Back.{round_whole}
use Rattle.rules.specs.Numbers.{plus_zero, wide, whole_part}
use Rattle.rules.specs.Kernels.{parts}
use Rattle.rules.specs.Samples.{floor_of, power, factor_of}
use Rattle.floats.proofs.Compared.{below_zero, not_below}
use Rattle.samples.specs.At.{held}
use Rattle.samples.proofs.Powers.{far_up, far}

-- ---- x from 0 on

-- the cast's end lies where the factor is infinite
cut : (a : ℕ) → held (power (pos (min a (2 ^ 64 - 1)))) ≡ held (power (pos a))
cut a = go (leb a (2 ^ 64 - 1)) refl
  where
    go : (b : Bool) → leb a (2 ^ 64 - 1) ≡ b → held (power (pos (min a (2 ^ 64 - 1)))) ≡ held (power (pos a))
    go true e = rw (min-eq_left (leb-true a (2 ^ 64 - 1) e))
    go false e =
        let h : 2 ^ 64 - 1 < a = leb-false a (2 ^ 64 - 1) e in
        rw (min-eq_right (le_of_lt h)) (sym (far_up (2 ^ 64 - 1) (omega arith)) ∙ far_up a (omega arith))

pub floor_up : (x : Float) → ne x x ≡ false → lt x plus_zero ≡ false → held (power (pos (whole_part x))) ≡ held (factor_of x)
unfolding factor_of floor_of whole_part to_unsigned
floor_up nan n h = absurd (true≢false (sym nan_differs ∙ n))
floor_up (inf true) n h = absurd (true≢false (unfold lt in h))
floor_up (inf false) n h = sym (far_up (2 ^ 64 - 1) (omega arith)) ∙ (unfold held in refl)
floor_up (fin false m e) n h = cut (m * up e / down e)
floor_up (fin true zero e) n h =
    let l : 0 * up e + (down e - 1) < down e = omega (arith, zero-mul (up e), down_pos e) in
    rw (div-eq_of_lt l)
floor_up (fin true (suc m) e) n h = absurd (true≢false (sym (below_zero m e) ∙ h))

-- ---- x below 0, and k the whole part of -x

-- the next whole number from a / d up
ceil_up : (a d k : ℕ) → 0 < d → k ≡ a / d → k * d < a → (a + (d - 1)) / d ≡ k + 1
ceil_up a d k D e h =
    let u : a < a / d * d + d = lt-div-mul-add D in
    let w : a / d * d ≡ k * d = ap (λ (x : ℕ). x * d) (sym e) in
    let p : (k + 1) * d ≡ k * d + 1 * d = add-mul k 1 d in
    let q : (k + 1 + 1) * d ≡ (k + 1) * d + 1 * d = add-mul (k + 1) 1 d in
    div-eq_of_lt-le d (omega arith) (omega arith)

ceil_same : (a d k : ℕ) → 0 < d → k ≡ a / d → a ≤ k * d → (a + (d - 1)) / d ≡ k
ceil_same a d k D e h =
    let u : a / d * d ≤ a = div-mul-le_self a d in
    let w : a / d * d ≡ k * d = ap (λ (x : ℕ). x * d) (sym e) in
    let p : (k + 1) * d ≡ k * d + 1 * d = add-mul k 1 d in
    div-eq_of_lt-le d (omega arith) (omega arith)

ceil_least : (a d : ℕ) → 0 < d → a / d ≤ (a + (d - 1)) / d
ceil_least a d D = (le-div_iff_mul-le D).1 (le_trans (div-mul-le_self a d) (le-add_right a (d - 1)))

not_cut : (a k : ℕ) → k ≡ min a (2 ^ 64 - 1) → k < 300 * parts → k ≡ a
not_cut a k e h = go (leb a (2 ^ 64 - 1)) refl
  where
    go : (b : Bool) → leb a (2 ^ 64 - 1) ≡ b → k ≡ a
    go true t = e ∙ min-eq_left (leb-true a (2 ^ 64 - 1) t)
    go false t = absurd (omega (arith, e ∙ min-eq_right (le_of_lt (leb-false a (2 ^ 64 - 1) t))))

-- k as a float, compared with a fraction
pub wide_value : (k : ℕ) → k ≤ 2 ^ 53 → HasValue (wide k) false k 1
unfolding wide of_int
wide_value k h = round_whole binary64 false k h

module _ (m : ℕ) (d : ℤ) (k : ℕ) where
  passed : (z : Float) → HasValue z false k 1 → lt z (fin false m d) ≡ true → k * down d < m * up d
  unfolding lt
  passed nan v h = absurd v
  passed (inf s) v h = absurd v
  passed (fin true a g) v h = absurd (true≢false v.0)
  passed (fin false a g) v h =
      lt_of_mul-lt-mul_right (down g)
      (lt_of_le_of_lt (le_of_eq (mul_right_comm k (down d) (down g) ∙ ap (λ (t : ℕ). t * down d) (sym v.1 ∙ mul-one (a * up g))))
      (ltb-true (a * up g * down d) (m * up d * down g) h))

  not_passed : (z : Float) → HasValue z false k 1 → lt z (fin false m d) ≡ false → m * up d ≤ k * down d
  unfolding lt
  not_passed nan v h = absurd v
  not_passed (inf s) v h = absurd v
  not_passed (fin true a g) v h = absurd (true≢false v.0)
  not_passed (fin false a g) v h =
      le_of_mul-le-mul_right {k = down g}
      (le_trans (ltb-false (a * up g * down d) (m * up d * down g) h)
      (le_of_eq (ap (λ (t : ℕ). t * down d) (sym (mul-one (a * up g)) ∙ v.1) ∙ mul_right_comm k (down g) (down d))))
      (down_pos g)

module _ (k : ℕ) where
  pub far_below : (x : Float) → lt x plus_zero ≡ true → k ≡ whole_part (neg x) → 300 * parts ≤ k → plus_zero ≡ held (factor_of x)
  unfolding factor_of floor_of whole_part to_unsigned neg
  far_below nan h e g = absurd (false≢true (unfold lt in h))
  far_below (inf true) h e g = unfold held round in refl
  far_below (inf false) h e g = absurd (false≢true (unfold lt in h))
  far_below (fin false m d) h e g = absurd (true≢false (sym h ∙ not_below m d))
  far_below (fin true m d) h e g =
      far ((m * up d + (down d - 1)) / down d)
      (le_trans g (le_trans (le_of_eq e) (le_trans (min-le_left (m * up d / down d) (2 ^ 64 - 1)) (ceil_least (m * up d) (down d) (down_pos d)))))

  module _ (g : k < 300 * parts) where
    pub floor_less : (x : Float) → lt x plus_zero ≡ true → k ≡ whole_part (neg x) → lt (wide k) (neg x) ≡ true → held (power (neg_ℤ (pos (k + 1)))) ≡ held (factor_of x)
    unfolding factor_of floor_of whole_part to_unsigned neg
    floor_less nan h e p = absurd (false≢true (unfold lt in h))
    floor_less (inf true) h e p = absurd (omega arith)
    floor_less (inf false) h e p = absurd (false≢true (unfold lt in h))
    floor_less (fin false m d) h e p = absurd (true≢false (sym h ∙ not_below m d))
    floor_less (fin true m d) h e p =
        rw (ceil_up (m * up d) (down d) k (down_pos d) (not_cut (m * up d / down d) k e g) (passed m d k (wide k) (wide_value k (omega arith)) p))

    pub floor_same : (x : Float) → lt x plus_zero ≡ true → k ≡ whole_part (neg x) → lt (wide k) (neg x) ≡ false → held (power (neg_ℤ (pos k))) ≡ held (factor_of x)
    unfolding factor_of floor_of whole_part to_unsigned neg
    floor_same nan h e p = absurd (false≢true (unfold lt in h))
    floor_same (inf true) h e p = absurd (omega arith)
    floor_same (inf false) h e p = absurd (false≢true (unfold lt in h))
    floor_same (fin false m d) h e p = absurd (true≢false (sym h ∙ not_below m d))
    floor_same (fin true m d) h e p =
        rw (ceil_same (m * up d) (down d) k (down_pos d) (not_cut (m * up d / down d) k e g) (not_passed m d k (wide k) (wide_value k (omega arith)) p))
