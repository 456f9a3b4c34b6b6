-- The whole part of a float, and how comparisons bound it. Assumes nothing.
use Rattle.std.proofs.Common.{◌≡◌, ℕ, zero, suc, ◌+◌, ◌-◌, ◌*◌, ◌/◌, ◌%◌, ◌^◌, ◌<◌, ◌≤◌, Bool, true, false, cond, ◌&&◌, ◌||◌, T, eqb, ltb, pos, sym, refl, ap, ◌∙◌, subst, true≢false, zero-le, le_trans, le_of_eq, lt_of_lt_of_le, lt_of_le_of_lt, le_of_lt, mul_assoc, mul_comm, div-lt_iff_lt-mul, le_antisymm, lt_of_mul-lt-mul_right, mul-pos, lt_of_not-le, le-div_iff_mul-le, mul-one, mul_right_comm, mul_left_comm, arith, lit<, ltb-false, ltb-true, eq-eqb, eqb-true}
use mathlib.Core.Bool.{false≢true}
use native.Mathlib.Nat.{div-le_of_le-mul, min-eq_left, min-eq_right, min-le_left, le-min}
use lib.Ieee.{Float, nan, inf, fin, Format, binary64, prec, low, emax, up, down, odd, units, round, mul, le, to_unsigned, size, nearest}
use lib.Ieee.Fits.{down_pos}
use lib.Ieee.Exact.{HasValue}
use lib.Ieee.Order.{round_mono}
use lib.Ieee.Positive.{positive, above, positive_of_value, above_of_le, values_of_le}

-- ---- comparisons of two numbers that are not negative
or_eq : (x y : Bool) → x ≡ true → (x || y) ≡ true
or_eq true y e = refl
or_eq false y e = absurd (false≢true e)

or_last : (x y : Bool) → x ≡ false → y ≡ true → (x || (y && true)) ≡ true
or_last true y e f = absurd (true≢false e)
or_last false true e f = refl
or_last false false e f = absurd (false≢true f)

pub le_is : (a b : ℕ) → a ≤ b → (ltb a b || (eqb a b && true)) ≡ true
le_is a b g = go (ltb a b) refl
  where
    go : (x : Bool) → ltb a b ≡ x → (ltb a b || (eqb a b && true)) ≡ true
    go true e = or_eq (ltb a b) (eqb a b && true) e
    go false e = or_last (ltb a b) (eqb a b) e (eq-eqb a b (le_antisymm g (ltb-false a b e)))

pub le_no : (a b : ℕ) → (ltb a b || (eqb a b && true)) ≡ false → b < a
le_no a b h = lt_of_not-le (λ (g : a ≤ b). true≢false (sym (le_is a b g) ∙ h))

pub le_yes : (a b : ℕ) → T (ltb a b || (eqb a b && true)) → a ≤ b
le_yes a b t = go (ltb a b) refl (eqb a b) refl t
  where
    go : (x : Bool) → ltb a b ≡ x → (y : Bool) → eqb a b ≡ y → T (x || (y && true)) → a ≤ b
    go true e y f t = le_of_lt (ltb-true a b e)
    go false e true f t = le_of_eq (eqb-true a b f)
    go false e false f t = absurd t

-- ---- x is below the whole number z, so its whole part is
pub cut_lt : (z x : Float) (n : ℕ) → HasValue z false n 1 → 0 < n → le z x ≡ false → to_unsigned 64 x < n
unfolding le to_unsigned
cut_lt nan x n v p h = absurd v
cut_lt (inf s) x n v p h = absurd v
cut_lt (fin true a g) x n v p h = absurd (true≢false v.0)
cut_lt (fin false a g) nan n v p h = p
cut_lt (fin false a g) (inf true) n v p h = p
cut_lt (fin false a g) (inf false) n v p h = absurd (true≢false h)
cut_lt (fin false a g) (fin true m e) n v p h = p
cut_lt (fin false a g) (fin false m e) n v p h =
    lt_of_le_of_lt (min-le_left (m * up e / down e) (2 ^ 64 - 1))
    ((div-lt_iff_lt-mul (down_pos e)).1
    (lt_of_mul-lt-mul_right (down g)
    (lt_of_lt_of_le (le_no (a * up g * down e) (m * up e * down g) h)
    (le_of_eq (ap (λ (t : ℕ). t * down e) (sym (mul-one (a * up g)) ∙ v.1) ∙ mul_right_comm n (down g) (down e))))))

-- x is at most the whole number z, so its whole part is
pub cut_le : (z x : Float) (n : ℕ) → HasValue z false n 1 → T (le x z) → to_unsigned 64 x ≤ n
unfolding le to_unsigned
cut_le nan x n v h = absurd v
cut_le (inf s) x n v h = absurd v
cut_le (fin true a g) x n v h = absurd (true≢false v.0)
cut_le (fin false a g) nan n v h = zero-le
cut_le (fin false a g) (inf true) n v h = zero-le
cut_le (fin false a g) (inf false) n v h = absurd h
cut_le (fin false a g) (fin true m e) n v h = zero-le
cut_le (fin false a g) (fin false m e) n v h =
    le_trans (min-le_left (m * up e / down e) (2 ^ 64 - 1))
    (div-le_of_le-mul (down e)
    (native.Mathlib.Nat.le_of_mul-le-mul_right {k = down g}
    (le_trans (le_yes (m * up e * down g) (a * up g * down e) h)
    (le_of_eq (ap (λ (t : ℕ). t * down e) (sym (mul-one (a * up g)) ∙ v.1) ∙ swap n (down g) (down e))))
    (down_pos g)))
  where
    swap : (n g e : ℕ) → n * g * e ≡ e * n * g
    swap n g e = simp (mul_assoc, mul_comm, mul_left_comm)

-- x is at least the whole number z, so its whole part is
pub cut_ge : (z x : Float) (n : ℕ) → HasValue z false n 1 → 0 < n → n ≤ 2 ^ 64 - 1 → T (le z x) → n ≤ to_unsigned 64 x
unfolding to_unsigned
cut_ge z x n v p k h = go x (above_of_le z x s h) h
  where
    s : T (positive z)
    s = positive_of_value z n 1 v p

    go : (x : Float) → T (above x) → T (le z x) → n ≤ to_unsigned 64 x
    go nan a h = absurd a
    go (inf true) a h = absurd a
    go (inf false) a h = k
    go (fin true m e) a h = absurd a
    go (fin false m e) a h =
        let l : n * down e ≤ m * up e * 1 = values_of_le z (fin false m e) n 1 (m * up e) (down e) s a v (refl, refl) h in
        le-min ((le-div_iff_mul-le (down_pos e)).1 (le_trans l (le_of_eq (mul-one (m * up e))))) k

-- ---- what is negative has no whole part
odd_neg : (d q k l : ℕ) → to_unsigned 64 (odd d true q k l) ≡ 0
unfolding odd to_unsigned
odd_neg d zero k l = refl
odd_neg d (suc q) k l = refl

units_neg : (f : Format) (q k : ℕ) → to_unsigned 64 (units f true q k) ≡ 0
unfolding units to_unsigned
units_neg f q k = go (ltb (q * 2 ^ k) (2 ^ (low f + suc (emax f))))
  where
    go : (b : Bool) → to_unsigned 64 (cond b (odd (suc (prec f)) true q k (low f)) (inf true)) ≡ 0
    go true = odd_neg (suc (prec f)) q k (low f)
    go false = refl

round_neg : (f : Format) (a b : ℕ) → to_unsigned 64 (round f true a b) ≡ 0
unfolding round
round_neg f a b =
    let n = a * 2 ^ low f in
    let k = size (n / b) - prec f in
    let u = b * 2 ^ k in
    units_neg f (nearest (n / u) (Prim.Native.Nat.compare (n % u * 2) u)) k

-- ---- y below 160 times 2 ^ 24
pub scaled_le : (y : Float) → le (fin false 5 (pos 5)) y ≡ false → to_unsigned 64 (mul binary64 y (fin false 1 (pos 24))) ≤ 160 * 2 ^ 24
unfolding le mul
scaled_le nan h = unfold to_unsigned in zero-le
scaled_le (inf true) h = unfold to_unsigned in zero-le
scaled_le (inf false) h = absurd (true≢false h)
scaled_le (fin true m e) h = le_trans (le_of_eq (round_neg binary64 (m * up e * (1 * 2 ^ 24)) (down e * 1))) zero-le
scaled_le (fin false m e) h =
    cut_le (fin false 5 (pos 29)) (round binary64 false (m * up e * (1 * 2 ^ 24)) (down e * 1)) (160 * 2 ^ 24) (refl, refl)
    (subst (λ (z : Float). T (le (round binary64 false (m * up e * (1 * 2 ^ 24)) (down e * 1)) z)) limit
    (round_mono binary64 (m * up e * (1 * 2 ^ 24)) (down e * 1) (160 * 2 ^ 24) 1 (mul-pos (down_pos e) (lit< tt)) (lit< tt)
    (bound (m * up e) (down e) (le_no (5 * 2 ^ 5 * down e) (m * up e * 1) h))))
  where
    limit : round binary64 false (160 * 2 ^ 24) 1 ≡ fin false 5 (pos 29)
    limit = unfold round in refl

    bound : (a d : ℕ) → a * 1 < 5 * 2 ^ 5 * d → a * (1 * 2 ^ 24) * 1 ≤ 160 * 2 ^ 24 * (d * 1)
    bound a d h = omega arith
