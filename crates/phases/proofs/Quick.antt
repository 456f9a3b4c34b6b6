-- The floor of a number x from -2 ^ 33 to 2 ^ 33, from the pattern of x + 3 * 2 ^ 33: that is a multiple of 2 ^ -18, so the digits before the last 18 are 2 ^ 33 more than the floor, unless those 18 are all 0. Assumes nothing.
use mathlib.Core.Path.{◌≡◌, refl, sym, ap, ◌∙◌, subst}
use mathlib.Core.Logic.{◌⊎◌, inl, inr}
use mathlib.Core.Bool.{Bool, true, false, cond, not, ◌&&◌, true≢false, false≢true}
use Prim.Native.Nat.{ℕ, zero, suc, ◌+◌, ◌-◌, ◌*◌, ◌/◌, ◌%◌, ◌^◌, ◌≤◌, ◌<◌}
use native.Mathlib.Nat.{le_trans, le_of_eq, lt_of_mul-lt-mul_right, mul-one, one-mul, mul-pos, mul_assoc, mul_comm, mul_left_comm, mul_right_comm, add-mul, mul-le-mul_right, div-eq_of_lt-le, min-eq_left}
use native.Mathlib.Omega.{arith}
use borrow.Author.Tests.{ltb-true, ltb-false}
use lib.Dec.{T, ltb}
use lib.IntN.{ℤ, pos, negsuc, neg_ℤ, sub_ℕ}
use lib.Signed.{mag}
use lib.Pow.{pow-add, pow_pos}
use lib.Ieee.{Float, nan, inf, fin, binary64, up, down, round, add, to_bits, is_nan, to_unsigned}
use lib.Ieee.Fits.{down_pos}
use lib.Ieee.Nearest.{closest, closest_same}
use Rattle.rules.specs.Numbers.{whole_part}
use Rattle.rules.specs.Samples.{floor_of, power, factor_of}
use Rattle.phases.specs.Patterns.{Lifted}
use Rattle.phases.proofs.Less.{neg_sub, pos_sub}
use Rattle.rounding_laws.specs.Total.{total_sign, total_size}
use Rattle.rounding_laws.proofs.Sum.{sum_once}
use Rattle.rounding_laws.proofs.Sticky.{closest_within}
use Rattle.rounding_laws.proofs.Cut.{Pattern, pattern, inf_bits}

-- the fields of a pattern from 2 ^ 34 to 2 ^ 35
fields : (s : Bool) (k c q : ℕ) → q ≡ cond s (2 ^ 63) 0 + (k * 2 ^ 52 + c) → c ≤ 2 ^ 53 → (k ≡ 0) ⊎ (2 ^ 52 ≤ c) → k < 2046 → 1057 * 2 ^ 52 < q → q < 1058 * 2 ^ 52
    → (s ≡ false) × (k ≡ 1056) × (c ≡ 2 ^ 52 + (q - 1057 * 2 ^ 52))
fields true k c q e h m K lo hi = absurd (omega arith)
fields false k c q e h (inl z) K lo hi = absurd (omega arith)
fields false k c q e h (inr m) K lo hi = let f : k ≡ 1056 = omega arith in (refl, f, omega arith)

-- a difference that is not below 0
no_more : (a b : ℕ) → total_sign true a false b ≡ false → total_size false a b ≡ b - a
no_more a b h = go (ltb a b) refl (ltb b a) refl h
  where
    go : (x : Bool) → ltb a b ≡ x → (y : Bool) → ltb b a ≡ y → cond x false y ≡ false → a - b + (b - a) ≡ b - a
    go true e y f t = let l = ltb-true a b e in omega arith
    go false e true f t = absurd (true≢false t)
    go false e false f t = let l = ltb-false b a f in omega arith

-- ---- d, a number of 2 ^ -18, and A / D + 2 ^ 33 or 2 ^ 33 - A / D: half of one apart at most

module _ (A D d : ℕ) (P : 0 < D) (n : d % 2 ^ 18 ≡ 0 → ⊥) where
  abbrev h : ℕ
  h = d / 2 ^ 18

  -- d lies between h and h + 1, and is neither
  more : h * D * 2 ^ 18 + D ≤ d * D
  more = le_trans (le_of_eq (sym (add-mul (h * 2 ^ 18) 1 D ∙ ap (λ (x : ℕ). x + 1 * D) (mul_right_comm h (2 ^ 18) D) ∙ ap (λ (x : ℕ). h * D * 2 ^ 18 + x) (one-mul D)))) (mul-le-mul_right D (omega arith))

  less : d * D + D ≤ h * D * 2 ^ 18 + 2 ^ 18 * D
  less =
      le_trans (le_of_eq (sym (add-mul d 1 D ∙ ap (λ (x : ℕ). d * D + x) (one-mul D))))
      (le_trans (top (omega arith)) (le_of_eq (add-mul (h * 2 ^ 18) (2 ^ 18) D ∙ ap (λ (x : ℕ). x + 2 ^ 18 * D) (mul_right_comm h (2 ^ 18) D))))
    where
      top : d + 1 ≤ h * 2 ^ 18 + 2 ^ 18 → (d + 1) * D ≤ (h * 2 ^ 18 + 2 ^ 18) * D
      top l = mul-le-mul_right D l

  near_up : d * D * 2 ≤ A * 2 ^ 19 + 2 ^ 52 * D + D → A * 2 ^ 19 + 2 ^ 52 * D ≤ d * D * 2 + D → (2 ^ 33 ≤ h) × (A / D ≡ h - 2 ^ 33)
  near_up lo hi =
      let e : (h + 1) * D ≡ h * D + D = add-mul h 1 D ∙ ap (λ (x : ℕ). h * D + x) (one-mul D) in
      let l : 2 ^ 33 < h + 1 = lt_of_mul-lt-mul_right D (omega (arith, less)) in
      let g = h - 2 ^ 33 in
      let f : h * D ≡ g * D + 2 ^ 33 * D = ap (λ (x : ℕ). x * D) (rest h l) ∙ add-mul g (2 ^ 33) D in
      let k : (g + 1) * D ≡ g * D + D = add-mul g 1 D ∙ ap (λ (x : ℕ). g * D + x) (one-mul D) in
      (omega arith, div-eq_of_lt-le D (omega (arith, more)) (omega (arith, less)))
    where
      rest : (h : ℕ) → 2 ^ 33 < h + 1 → h ≡ h - 2 ^ 33 + 2 ^ 33
      rest h l = omega arith

  near_down : A * 2 ^ 19 + d * D * 2 ≤ 2 ^ 52 * D + D → 2 ^ 52 * D ≤ A * 2 ^ 19 + d * D * 2 + D → (h < 2 ^ 33) × ((A + (D - 1)) / D ≡ 2 ^ 33 - h)
  near_down lo hi =
      let l : h < 2 ^ 33 = lt_of_mul-lt-mul_right D (omega (arith, more)) in
      let g = 2 ^ 33 - h in
      let f : h * D + g * D ≡ 2 ^ 33 * D = sym (add-mul h g D) ∙ ap (λ (x : ℕ). x * D) (rest h l) in
      let k : (g + 1) * D ≡ g * D + D = add-mul g 1 D ∙ ap (λ (x : ℕ). g * D + x) (one-mul D) in
      (l, div-eq_of_lt-le D (omega (arith, less)) (omega (arith, more)))
    where
      rest : (h : ℕ) → h < 2 ^ 33 → h + (2 ^ 33 - h) ≡ 2 ^ 33
      rest h l = omega arith

-- ---- the pattern

scaled : (n D j i k : ℕ) → 0 < D → j ≡ i + k → closest (n * 2 ^ j) (D * 2 ^ k) ≡ closest (n * 2 ^ i) D
scaled n D j i k P e =
    closest_same (n * 2 ^ j) (D * 2 ^ k) (n * 2 ^ i) D (mul-pos P (pow_pos k)) P
    (ap (λ (x : ℕ). n * x * D) (ap (λ (x : ℕ). 2 ^ x) e ∙ pow-add 2 i k) ∙ regroup n (2 ^ i) (2 ^ k) D)
  where
    regroup : (n a b c : ℕ) → n * (a * b) * c ≡ n * a * (c * b)
    regroup n a b c = simp (mul_assoc, mul_comm, mul_left_comm)

abbrev pub bits : Float → ℕ
bits z = to_bits binary64 (add binary64 z (fin false 3 (pos 33)))

module _ (s : Bool) (m : ℕ) (e : ℤ) (lo : 1057 * 2 ^ 52 < bits (fin s m e)) (hi : bits (fin s m e) < 1058 * 2 ^ 52) where
  abbrev D : ℕ
  D = down e * 1

  abbrev A : ℕ
  A = m * up e * 1

  abbrev B : ℕ
  B = 3 * 2 ^ 33 * down e

  abbrev sign : Bool
  sign = total_sign s A false B

  abbrev num : ℕ
  num = total_size (mathlib.Core.Bool.beq s false) A B

  D-pos : 0 < D
  D-pos = omega (arith, down_pos e)

  once : bits (fin s m e) ≡ to_bits binary64 (round binary64 sign num D)
  unfolding add
  once = ap (to_bits binary64) (sum_once binary64 s A false B D)

  abbrev d : ℕ
  d = bits (fin s m e) - 1057 * 2 ^ 52

  record Read : Type 0 where
    plus : sign ≡ false
    below : (2 ^ 52 + d) * D * 2 ≤ num * 2 ^ 18 * 2 + D
    above : num * 2 ^ 18 * 2 ≤ (2 ^ 52 + d) * D * 2 + D

  read : Read
  read = go (pattern sign num D D-pos (subst (λ (n : ℕ). n % 2 ^ 63 < 2047 * 2 ^ 52) once (small (bits (fin s m e)) hi)))
    where
      small : (q : ℕ) → q < 1058 * 2 ^ 52 → q % 2 ^ 63 < 2047 * 2 ^ 52
      small q h = omega arith

      go : Pattern sign num D (to_bits binary64 (round binary64 sign num D)) → Read
      go P =
          let c = closest (num * 2 ^ 1074) (D * 2 ^ P.k) in
          let f = fields sign P.k c (bits (fin s m e)) (once ∙ P.reads) P.most P.least P.small lo hi in
          let j : 1074 ≡ 18 + P.k = omega (arith, f.1) in
          let g : closest (num * 2 ^ 18) D ≡ 2 ^ 52 + d = sym (scaled num D 1074 18 P.k D-pos j) ∙ f.2 in
          let w = subst (λ (x : ℕ). (x * D * 2 ≤ num * 2 ^ 18 * 2 + D) × (num * 2 ^ 18 * 2 ≤ x * D * 2 + D)) g (closest_within (num * 2 ^ 18) D D-pos) in
          record { plus = f.0; below = w.0; above = w.1 }

far : (s : Bool) → to_bits binary64 (inf s) < 1058 * 2 ^ 52 → ⊥
far s h = omega (arith, inf_bits s)

-- the sum's two sides, in numbers of 2 ^ -18
spread_up : (a D d : ℕ) → (2 ^ 52 + d) * (D * 1) * 2 ≤ (a * 1 + 3 * 2 ^ 33 * D) * 2 ^ 18 * 2 + D * 1 → (a * 1 + 3 * 2 ^ 33 * D) * 2 ^ 18 * 2 ≤ (2 ^ 52 + d) * (D * 1) * 2 + D * 1
    → (d * D * 2 ≤ a * 2 ^ 19 + 2 ^ 52 * D + D) × (a * 2 ^ 19 + 2 ^ 52 * D ≤ d * D * 2 + D)
spread_up a D d lo hi =
    let e : (2 ^ 52 + d) * (D * 1) ≡ 2 ^ 52 * D + d * D = ap (λ (x : ℕ). (2 ^ 52 + d) * x) (mul-one D) ∙ add-mul (2 ^ 52) d D in
    (omega arith, omega arith)

spread_down : (a D d n : ℕ) → 0 < D → n ≡ 3 * 2 ^ 33 * D - a * 1 → (2 ^ 52 + d) * (D * 1) * 2 ≤ n * 2 ^ 18 * 2 + D * 1 → n * 2 ^ 18 * 2 ≤ (2 ^ 52 + d) * (D * 1) * 2 + D * 1
    → (a * 2 ^ 19 + d * D * 2 ≤ 2 ^ 52 * D + D) × (2 ^ 52 * D ≤ a * 2 ^ 19 + d * D * 2 + D)
spread_down a D d n P f lo hi =
    let e : (2 ^ 52 + d) * (D * 1) ≡ 2 ^ 52 * D + d * D = ap (λ (x : ℕ). (2 ^ 52 + d) * x) (mul-one D) ∙ add-mul (2 ^ 52) d D in
    (omega arith, omega arith)

abbrev pub digits : Float → ℕ
digits z = bits z - 1057 * 2 ^ 52

-- what the code tests
pub record Tested (z : Float) : Type 0 where
  pub some : T (not (is_nan (add binary64 z (fin false 3 (pos 33)))))
  pub lo : 1057 * 2 ^ 52 < bits z
  pub hi : bits z < 1058 * 2 ^ 52
  pub apart : digits z % 2 ^ 18 ≡ 0 → ⊥

-- x from 0 on, and below
floor_up : (m : ℕ) (e : ℤ) → Tested (fin false m e) → (2 ^ 33 ≤ digits (fin false m e) / 2 ^ 18) × (m * up e / down e ≡ digits (fin false m e) / 2 ^ 18 - 2 ^ 33)
floor_up m e t =
    let r = read false m e t.lo t.hi in
    let d = digits (fin false m e) in
    let s = spread_up (m * up e) (down e) d r.below r.above in
    near_up (m * up e) (down e) d (down_pos e) t.apart s.0 s.1

floor_down : (m : ℕ) (e : ℤ) → Tested (fin true m e) → (digits (fin true m e) / 2 ^ 18 < 2 ^ 33) × ((m * up e + (down e - 1)) / down e ≡ 2 ^ 33 - digits (fin true m e) / 2 ^ 18)
floor_down m e t =
    let r = read true m e t.lo t.hi in
    let d = digits (fin true m e) in
    let s = spread_down (m * up e) (down e) d (num true m e t.lo t.hi) (down_pos e) (no_more (m * up e * 1) (3 * 2 ^ 33 * down e) r.plus) r.below r.above in
    near_down (m * up e) (down e) d (down_pos e) t.apart s.0 s.1

pub lifts : (z : Float) → Tested z → Lifted z (digits z / 2 ^ 18)
unfolding Lifted floor_of
lifts nan t = unfold add is_nan in t.some
lifts (inf s) t = far s (unfold add in t.hi)
lifts (fin true m e) t =
    let f = floor_down m e t in
    let g : 2 ^ 33 - digits (fin true m e) / 2 ^ 18 ≡ suc (2 ^ 33 - suc (digits (fin true m e) / 2 ^ 18)) = omega arith in
    rw (f.1, g) (sym (neg_sub (digits (fin true m e) / 2 ^ 18) (2 ^ 33) f.0))
lifts (fin false m e) t = let f = floor_up m e t in rw f.1 (sym (pos_sub (digits (fin false m e) / 2 ^ 18) (2 ^ 33) f.0))

-- ---- what that gives

abbrev below : ℤ → Bool
below (pos n) = false
below (negsuc n) = true

-- the whole part
pub whole_lifted : (z : Float) (h : ℕ) → Lifted z h → 2 ^ 33 ≤ h → h < 2 ^ 34 → h - 2 ^ 33 ≡ whole_part z
unfolding Lifted floor_of whole_part to_unsigned
whole_lifted nan h t l u = absurd t
whole_lifted (inf s) h t l u = absurd t
whole_lifted (fin true m e) h t l u = none ((m * up e + (down e - 1)) / down e) (h - 2 ^ 33) (t ∙ pos_sub h (2 ^ 33) l)
  where
    none : (c k : ℕ) → neg_ℤ (pos c) ≡ pos k → k ≡ 0
    none zero k e = sym (ap mag e)
    none (suc c) k e = absurd (true≢false (ap below e))
whole_lifted (fin false m e) h t l u =
    let f : m * up e / down e ≡ h - 2 ^ 33 = ap mag (t ∙ pos_sub h (2 ^ 33) l) in
    rw f (sym (min-eq_left (omega arith)))

-- the factor of an exponential sample, by P
pub factor_lifted : (z : Float) (h : ℕ) → Lifted z h → factor_of z ≡ power (sub_ℕ h (2 ^ 33))
unfolding Lifted factor_of
factor_lifted nan h t = absurd t
factor_lifted (inf s) h t = absurd t
factor_lifted (fin s m e) h t = ap power t
