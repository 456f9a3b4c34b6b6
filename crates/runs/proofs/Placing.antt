-- The steps of a target's factor, from the pattern of their number and 3 * 2 ^ 33: where they are fewer than a limit, and the pattern does not end in 18 zeros. Assumes nothing.
use Rattle.std.proofs.Common.{◌≡◌, ℕ, ◌+◌, ◌-◌, ◌*◌, ◌/◌, ◌%◌, ◌^◌, ◌<◌, ◌≤◌, Bool, true, false, not, T, eqb, ◌⊎◌, pos, sym, refl, ap, ◌∙◌, subst, inl, inr, ⊎_elim, le_trans, le_of_eq, lt_of_le_of_lt, le_of_lt, mul-le-mul_right, div-lt_iff_lt-mul, arith, lit<, lit≤, pow_pos, eqb-true}
use mathlib.Core.Bool.{false≢true}
use borrow.Author.Tests.{eqb-false}
use lib.Ieee.{Float, nan, inf, fin, binary64, round, add, mul, le, lt, fits, is_nan, to_bits}
use lib.Ieee.Fits.{mul-fits}
use lib.Ieee.Positive.{positive, above, above_of_le, mul_mono}
use Rattle.rules.specs.Numbers.{plus_zero, wide, whole_part, narrowed}
use Rattle.rules.specs.Samples.{log2e, decay_of}
use Rattle.rounding_laws.specs.Parts.{Parted}
use Rattle.rounding_laws.proofs.Parts.{parted}
use Rattle.rounding_laws.proofs.Wide.{add_no_nan}
use Rattle.samples.proofs.Fading.{decay-left}
use Rattle.phases.specs.Patterns.{Lifted}
use Rattle.phases.proofs.Quick.{bits, lifts, whole_lifted}
use Rattle.decays.specs.Told.{steps_in}
use Rattle.decays.proofs.Between.{bits_less, bits_small}
use Rattle.runs.specs.Placed.{Placed}
use Rattle.runs.specs.Rising.{Is}
use Rattle.runs.proofs.Ascent.{le_is, lt_is, add_is}
use Rattle.runs.proofs.Climb.{whole_is, wide_is}

-- ---- a number above one, and below a finite one

pub above_no_nan : (low x : Float) → lt low x ≡ true → T (not (is_nan x))
unfolding lt is_nan
above_no_nan low (inf s) h = tt
above_no_nan low (fin s m e) h = tt
above_no_nan nan nan h = absurd (false≢true h)
above_no_nan (inf s) nan h = absurd (false≢true h)
above_no_nan (fin s m e) nan h = absurd (false≢true h)

inside_is : (x top : Float) (t : ℕ) → Is top t → T (fits binary64 x) → lt plus_zero x ≡ true → lt x top ≡ true → (n : ℕ) × Is x n
unfolding lt
inside_is nan top t w fit lo hi = absurd (false≢true lo)
inside_is (inf true) top t w fit lo hi = absurd (false≢true lo)
inside_is (inf false) nan t w fit lo hi = absurd w
inside_is (inf false) (inf s) t w fit lo hi = absurd w
inside_is (inf false) (fin s m e) t w fit lo hi = absurd (false≢true hi)
inside_is (fin true m e) top t w fit lo hi = absurd (false≢true lo)
inside_is (fin false m e) top t w fit lo hi = go (parted binary64 (fin false m e) fit tt)
  where
    go : {s : Bool} {k j : ℕ} → Parted binary64 (fin false m e) s k j → (n : ℕ) × Is (fin false m e) n
    go {s} {k} {j} p = (k * 2 ^ j, (refl, p.value.1))

-- ---- 2 ^ 24 y below 125 * 2 ^ 24 shows that y is below 160

abbrev pub steps : Float → Float
steps y = mul binary64 y (fin false 1 (pos 24))

most : steps (fin false 5 (pos 5)) ≡ fin false 5 (pos 29)
unfolding mul
most = refl

module _ (top : Float) (t : ℕ) (w : Is top t) (few : t ≤ 125 * 2 ^ 24 * 2 ^ 1074) where
  far : (y : Float) (n : ℕ) → Is (steps y) n → n < t → T (positive y) → T (le (fin false 5 (pos 5)) y) → ⊥
  unfolding le
  far y n v l p h =
      let g : 160 * 2 ^ 24 * 2 ^ 1074 ≤ n =
      le_is (fin false 5 (pos 29)) (steps y) (160 * 2 ^ 24 * 2 ^ 1074) n (refl, refl) v
      (subst (λ (z : Float). T (le z (steps y))) most (mul_mono binary64 (fin false 5 (pos 5)) y (fin false 1 (pos 24)) (fin false 1 (pos 24)) tt p tt tt h tt)) in
      clash n t (2 ^ 1074) (pow_pos 1074) g l few
    where
      clash : (n t g : ℕ) → 0 < g → 160 * 2 ^ 24 * g ≤ n → n < t → t ≤ 125 * 2 ^ 24 * g → ⊥
      clash n t g p a b c = omega arith

  -- an infinity has infinitely many
  above_positive : (y : Float) (n : ℕ) → Is (steps y) n → T (above y) → T (positive y)
  unfolding mul
  above_positive nan n v a = absurd a
  above_positive (inf true) n v a = absurd a
  above_positive (inf false) n v a = absurd v
  above_positive (fin true m e) n v a = absurd a
  above_positive (fin false m e) n v a = a

  near : (y : Float) (n : ℕ) → Is (steps y) n → n < t → le (fin false 5 (pos 5)) y ≡ false
  near y n v l = go (le (fin false 5 (pos 5)) y) refl
    where
      go : (b : Bool) → le (fin false 5 (pos 5)) y ≡ b → b ≡ false
      go true e = let h : T (le (fin false 5 (pos 5)) y) = subst T (sym e) tt in absurd (far y n v l (above_positive y n v (above_of_le (fin false 5 (pos 5)) y tt h)) h)
      go false e = refl

-- ---- the pattern

-- that of a fraction between two numbers lies between theirs
module _ (num den lo hi : ℕ) (P : 0 < den) (over : lo * den ≤ num * 1) (under : num * 1 ≤ hi * den) (small : to_bits binary64 (round binary64 false hi 1) % 2 ^ 63 < 2047 * 2 ^ 52) where
  pub from_low : to_bits binary64 (round binary64 false lo 1) ≤ to_bits binary64 (round binary64 false num den)
  from_low = bits_less false lo 1 num den (lit< tt) P over (bits_small false num den hi 1 P (lit< tt) under small)

  pub to_high : to_bits binary64 (round binary64 false num den) ≤ to_bits binary64 (round binary64 false hi 1)
  to_high = bits_less false num den hi 1 P (lit< tt) under small

low_bits : to_bits binary64 (round binary64 false (3 * 2 ^ 33) 1) ≡ 2115 * 2 ^ 51
unfolding round to_bits
low_bits = refl

high_bits : to_bits binary64 (round binary64 false (7 * 2 ^ 32) 1) ≡ 8462 * 2 ^ 49
unfolding round to_bits
high_bits = refl

pub zero_bits : bits plus_zero % 2 ^ 18 ≡ 0
unfolding add to_bits
zero_bits = refl

module _ (x : Float) (n : ℕ) (v : Is x n) (few : n ≤ 2 ^ 32 * 2 ^ 1074) where
  abbrev num : ℕ
  num = n + 3 * 2 ^ 33 * 2 ^ 1074

  once : bits x ≡ to_bits binary64 (round binary64 false num (2 ^ 1074))
  once = ap (to_bits binary64) (add_is x (fin false 3 (pos 33)) n (3 * 2 ^ 33 * 2 ^ 1074) v (refl, refl))

  under : num * 1 ≤ 7 * 2 ^ 32 * 2 ^ 1074
  under = go n (2 ^ 1074) few
    where
      go : (n g : ℕ) → n ≤ 2 ^ 32 * g → (n + 3 * 2 ^ 33 * g) * 1 ≤ 7 * 2 ^ 32 * g
      go n g h = omega arith

  over : 3 * 2 ^ 33 * 2 ^ 1074 ≤ num * 1
  over = go n (2 ^ 1074)
    where
      go : (n g : ℕ) → 3 * 2 ^ 33 * g ≤ (n + 3 * 2 ^ 33 * g) * 1
      go n g = omega arith

  top_small : to_bits binary64 (round binary64 false (7 * 2 ^ 32) 1) % 2 ^ 63 < 2047 * 2 ^ 52
  top_small = omega (arith, high_bits)

  pattern_hi : bits x < 1058 * 2 ^ 52
  pattern_hi = omega (arith, once, high_bits, to_high num (2 ^ 1074) (3 * 2 ^ 33) (7 * 2 ^ 32) (pow_pos 1074) over under top_small)

  pattern_lo : 2115 * 2 ^ 51 ≤ bits x
  pattern_lo = omega (arith, once, low_bits, from_low num (2 ^ 1074) (3 * 2 ^ 33) (7 * 2 ^ 32) (pow_pos 1074) over under top_small)

-- what the last 18 digits of a pattern say
pub floor_lifted : (x : Float) → T (not (is_nan x)) → 1057 * 2 ^ 52 < bits x → bits x < 1058 * 2 ^ 52 → (bits x % 2 ^ 18 ≡ 0 → ⊥) → Lifted x ((bits x - 1057 * 2 ^ 52) / 2 ^ 18)
floor_lifted x some l h n = lifts x (record { some = add_no_nan binary64 x (fin false 3 (pos 33)) some tt; lo = l; hi = h; apart = λ z. n (same (bits x) l z) })
  where
    same : (b : ℕ) → 1057 * 2 ^ 52 < b → (b - 1057 * 2 ^ 52) % 2 ^ 18 ≡ 0 → b % 2 ^ 18 ≡ 0
    same b l z = omega arith

pub zero_or : {A : Type 0} (n : ℕ) → ((n ≡ 0 → ⊥) → A) → (n ≡ 0) ⊎ A
zero_or {A} n f = go (eqb n 0) refl
  where
    go : (t : Bool) → eqb n 0 ≡ t → (n ≡ 0) ⊎ A
    go true e = inl (eqb-true n 0 e)
    go false e = inr (f (eqb-false n 0 e))

tests : (b : ℕ) → 2115 * 2 ^ 51 ≤ b → b < 1058 * 2 ^ 52 → (1057 * 2 ^ 52 < b) × (2 ^ 33 ≤ (b - 1057 * 2 ^ 52) / 2 ^ 18) × ((b - 1057 * 2 ^ 52) / 2 ^ 18 < 2 ^ 34)
tests b l h = (omega arith, omega arith, omega arith)

same : (b : ℕ) → 2115 * 2 ^ 51 ≤ b → (b - 2115 * 2 ^ 51) / 2 ^ 18 ≡ (b - 1057 * 2 ^ 52) / 2 ^ 18 - 2 ^ 33
same b l = omega arith

whole_steps : (x : Float) → T (not (is_nan x)) → 2115 * 2 ^ 51 ≤ bits x → bits x < 1058 * 2 ^ 52 → (bits x % 2 ^ 18 ≡ 0 → ⊥) → steps_in (bits x) ≡ whole_part x
whole_steps x some l h n =
    let s = tests (bits x) l h in
    same (bits x) l
    ∙ whole_lifted x ((bits x - 1057 * 2 ^ 52) / 2 ^ 18) (floor_lifted x some s.0 h n) s.1 s.2

-- ---- the steps at a phase

module _ (few : ℕ) (x : Float) (h : few ≤ 124) where
  abbrev limit : ℕ
  limit = (few + 1) * 2 ^ 24

  abbrev top : Float
  top = wide limit

  abbrev y : Float
  y = mul binary64 x log2e

  abbrev v : Float
  v = steps y

  limit_most : limit ≤ 125 * 2 ^ 24
  limit_most = omega arith

  top_is : Is top (limit * 2 ^ 1074)
  top_is = wide_is limit (omega (arith, limit_most))

  module _ (lo : lt plus_zero v ≡ true) (hi : lt v top ≡ true) where
    found : (n : ℕ) × Is v n
    found = inside_is v top (limit * 2 ^ 1074) top_is (mul-fits binary64 y (fin false 1 (pos 24))) lo hi

    abbrev n : ℕ
    n = found.0

    less : n < limit * 2 ^ 1074
    less = lt_is v top n (limit * 2 ^ 1074) found.1 top_is hi

    fewer : n ≤ 2 ^ 32 * 2 ^ 1074
    fewer = let l : limit ≤ 2 ^ 32 = le_trans limit_most (lit≤ tt) in le_trans (le_of_lt less) (mul-le-mul_right (2 ^ 1074) l)

    parts_less : n / 2 ^ 1074 < limit
    parts_less = (div-lt_iff_lt-mul (pow_pos 1074)).1 less

    whole_less : whole_part v < limit
    whole_less = lt_of_le_of_lt (le_of_eq (whole_is v n found.1 (le_trans (le_of_lt parts_less) (le_trans limit_most (lit≤ tt))))) parts_less

    shown : (bits v % 2 ^ 18 ≡ 0 → ⊥) → Placed few x (bits v)
    shown apart =
        let l = pattern_lo v n found.1 fewer in
        let e = whole_steps v (above_no_nan plus_zero v lo) l (pattern_hi v n found.1 fewer) apart in
        record {
          lo = l;
          hi = small (bits v) l (lt_of_le_of_lt (le_of_eq e) whole_less);
          factor = ap (λ (k : ℕ). narrowed (decay_of k)) e ∙ decay-left y (near top (limit * 2 ^ 1074) top_is (mul-le-mul_right (2 ^ 1074) limit_most) y n found.1 less);
        }
      where
        small : (b : ℕ) → 2115 * 2 ^ 51 ≤ b → (b - 2115 * 2 ^ 51) / 2 ^ 18 < (few + 1) * 2 ^ 24 → b < 2115 * 2 ^ 51 + (few + 1) * 2 ^ 42
        small b l h = omega arith

    pub placed_at : (bits v % 2 ^ 18 ≡ 0) ⊎ Placed few x (bits v)
    placed_at = zero_or (bits v % 2 ^ 18) shown

-- ---- after two tests: what passes the first is u, what passes the second z

abbrev pub Below : Float → Float → Float → Type 0
Below top v u = ((u ≡ v) × (lt v top ≡ true)) ⊎ (u ≡ plus_zero)

abbrev pub Above : Float → Float → Float → Type 0
Above low u z = ((z ≡ u) × (lt low u ≡ true)) ⊎ (z ≡ plus_zero)

-- R of 0, and of a number that passes both
pub kept : (R : Float → Type 0) (low top v u z : Float) → R plus_zero → (lt low v ≡ true → lt v top ≡ true → R v) → Below top v u → Above low u z → R z
kept R low top v u z none some a b =
    ⊎_elim
    (λ p. ⊎_elim
    (λ q. subst R (sym (p.0 ∙ q.0)) (some (ap (lt low) (sym q.0) ∙ p.1) q.1))
    (λ e. subst R (sym (p.0 ∙ e)) none) a)
    (λ e. subst R (sym e) none) b

pub kept_no_nan : (low u z : Float) → Above low u z → T (not (is_nan (add binary64 z (fin false 3 (pos 33)))))
unfolding is_nan
kept_no_nan low u z k =
    add_no_nan binary64 z (fin false 3 (pos 33))
    (⊎_elim (λ p. subst (λ (w : Float). T (not (is_nan w))) (sym p.0) (above_no_nan low u p.1)) (λ e. subst (λ (w : Float). T (not (is_nan w))) (sym e) tt) k) tt

pub kept_placed : (few : ℕ) (x top u z : Float) → few ≤ 124 → top ≡ wide ((few + 1) * 2 ^ 24) → Below top (steps (mul binary64 x log2e)) u → Above plus_zero u z → (bits z % 2 ^ 18 ≡ 0) ⊎ Placed few x (bits z)
kept_placed few x top u z h is =
    let v = steps (mul binary64 x log2e) in
    kept (λ (w : Float). (bits w % 2 ^ 18 ≡ 0) ⊎ Placed few x (bits w)) plus_zero top v u z (inl zero_bits) (λ l t. placed_at few x h l (ap (lt v) (sym is) ∙ t))
