-- A fraction between two that round to patterns in one cell of an f32: it narrows to that cell's number too. Assumes nothing.
use mathlib.Core.Path.{◌≡◌, refl, sym, ap, ◌∙◌, subst}
use mathlib.Core.Logic.{◌⊎◌, inl, inr, ⊎_elim}
use mathlib.Core.Bool.{Bool, true, false, cond, not}
use Prim.Native.Nat.{ℕ, ◌+◌, ◌-◌, ◌*◌, ◌/◌, ◌%◌, ◌^◌, ◌≤◌, ◌<◌}
use native.Mathlib.Nat.{le_trans, le_of_eq, lt_of_lt_of_le, lt_of_le_of_lt, lt_irrefl, mod-lt, mul-pos, eq-or-lt_of_le, mul_assoc, mul_right_comm, mul-le-mul_right, mul-lt-mul_of_pos_right}
use native.Mathlib.Omega.{arith}
use lib.Dec.{T, leb, lit<}
use borrow.Author.Tests.{leb-true, leb-false}
use lib.Pow.{pow_pos, pow_mono}
use lib.Ieee.{binary64, round, size, of_bits, to_bits}
use lib.Ieee.Bits.{to_bits-of_bits, to_bits-lt, nan_bits_is}
use lib.Ieee.Fits.{round-fits}
use lib.Ieee.Nearest.{closest, closest_mono}
use Rattle.rules.specs.Numbers.{narrowed}
use Rattle.rounding_laws.proofs.At.{no_nan}
use Rattle.rounding_laws.proofs.Pack.{Drops, kept_le, pack_round}
use Rattle.rounding_laws.proofs.Sticky.{drops_own}
use Rattle.rounding_laws.proofs.Cut.{Pattern, pattern, even_law}

-- ---- a smaller fraction has a smaller pattern

module _ (s : Bool) (a c b d : ℕ) (C : 0 < c) (D : 0 < d) (less : a * d ≤ b * c) (hi : to_bits binary64 (round binary64 s b d) % 2 ^ 63 < 2047 * 2 ^ 52) where
  P : Pattern s b d (to_bits binary64 (round binary64 s b d))
  P = pattern s b d D hi

  abbrev k : ℕ
  k = size (a * 2 ^ 1074 / c) - 53

  drops : Drops 53 (a * 2 ^ 1074) c k
  drops = drops_own 53 (a * 2 ^ 1074) c (lit< tt) C

  -- both fractions times c * d
  crossed : a * 2 ^ 1074 * d ≤ b * 2 ^ 1074 * c
  crossed =
      le_trans (le_of_eq (mul_right_comm a (2 ^ 1074) d)) (le_trans (mul-le-mul_right (2 ^ 1074) less) (le_of_eq (mul_right_comm b c (2 ^ 1074))))

  fewer : k ≤ P.k
  fewer = ⊎_elim (λ z. omega arith) (λ g. at_most (leb k P.k) refl g) drops.1
    where
      clash : 2 ^ (52 + k) * c ≤ a * 2 ^ 1074 → P.k < k → ⊥
      clash g l =
          let u : b * 2 ^ 1074 < 2 ^ (52 + k) * d = lt_of_lt_of_le P.drops.0 (mul-le-mul_right d (pow_mono {i = 53 + P.k} {j = 52 + k} (omega arith))) in
          let v : 2 ^ (52 + k) * c * d ≤ b * 2 ^ 1074 * c = le_trans (mul-le-mul_right d g) crossed in
          let w : b * 2 ^ 1074 * c < 2 ^ (52 + k) * c * d = lt_of_lt_of_le (mul-lt-mul_of_pos_right u C) (le_of_eq (mul_right_comm (2 ^ (52 + k)) d c)) in
          lt_irrefl (b * 2 ^ 1074 * c) (lt_of_lt_of_le w v)

      at_most : (x : Bool) → leb k P.k ≡ x → 2 ^ (52 + k) * c ≤ a * 2 ^ 1074 → k ≤ P.k
      at_most true e g = leb-true k P.k e
      at_most false e g = absurd (clash g (leb-false k P.k e))

  abbrev q : ℕ
  q = closest (a * 2 ^ 1074) (c * 2 ^ k)

  most : q ≤ 2 ^ 53
  most = kept_le 53 (a * 2 ^ 1074) c k C drops.0

  abbrev own : ℕ
  own = cond s (2 ^ 63) 0 + (k * 2 ^ 52 + q)

  room : (k q : ℕ) → k < 2046 → q ≤ 2 ^ 53 → k * 2 ^ 52 + q ≤ 2047 * 2 ^ 52
  room k q h g = omega arith

  below_all : (t : Bool) (m : ℕ) → m ≤ 2047 * 2 ^ 52 → cond t (2 ^ 63) 0 + m < 2 ^ 64
  below_all true m h = omega arith
  below_all false m h = omega arith

  reads : to_bits binary64 (round binary64 s a c) ≡ own
  reads =
      let l : k < 2046 = lt_of_le_of_lt fewer P.small in
      let m = room k q l most in
      ap (to_bits binary64) (sym (pack_round binary64 s a c k q C (omega arith) drops refl))
      ∙ to_bits-of_bits binary64 own (below_all s (k * 2 ^ 52 + q) m) (subst (λ (x : Bool). T (not x)) (nan_bits_is binary64 own) (no_nan binary64 s (k * 2 ^ 52 + q) m))

  digits : (j : ℕ) → k ≡ j → closest (a * 2 ^ 1074) (c * 2 ^ k) ≤ closest (b * 2 ^ 1074) (d * 2 ^ j)
  digits j e =
      subst (λ (i : ℕ). q ≤ closest (b * 2 ^ 1074) (d * 2 ^ i)) e
      (closest_mono (a * 2 ^ 1074) (c * 2 ^ k) (b * 2 ^ 1074) (d * 2 ^ k) (mul-pos C (pow_pos k)) (mul-pos D (pow_pos k))
      (le_trans (le_of_eq (sym (mul_assoc (a * 2 ^ 1074) d (2 ^ k)))) (le_trans (mul-le-mul_right (2 ^ k) crossed) (le_of_eq (mul_assoc (b * 2 ^ 1074) c (2 ^ k))))))

  smaller : (k q j r : ℕ) → k < j → q ≤ 2 ^ 53 → (j ≡ 0) ⊎ (2 ^ 52 ≤ r) → k * 2 ^ 52 + q ≤ j * 2 ^ 52 + r
  smaller k q j r l h (inl z) = absurd (omega arith)
  smaller k q j r l h (inr g) = omega arith

  plus : (t : Bool) (x y : ℕ) → x ≤ y → cond t (2 ^ 63) 0 + x ≤ cond t (2 ^ 63) 0 + y
  plus t x y h = omega arith

  size_less : k * 2 ^ 52 + q ≤ P.k * 2 ^ 52 + closest (b * 2 ^ 1074) (d * 2 ^ P.k)
  size_less = ⊎_elim same other (eq-or-lt_of_le fewer)
    where
      same : k ≡ P.k → k * 2 ^ 52 + q ≤ P.k * 2 ^ 52 + closest (b * 2 ^ 1074) (d * 2 ^ P.k)
      same e = let g = digits P.k e in omega arith

      other : k < P.k → k * 2 ^ 52 + q ≤ P.k * 2 ^ 52 + closest (b * 2 ^ 1074) (d * 2 ^ P.k)
      other l = smaller k q P.k (closest (b * 2 ^ 1074) (d * 2 ^ P.k)) l most P.least

  pub bits_less : to_bits binary64 (round binary64 s a c) ≤ to_bits binary64 (round binary64 s b d)
  bits_less =
      le_trans (le_of_eq reads)
      (le_trans (plus s (k * 2 ^ 52 + q) (P.k * 2 ^ 52 + closest (b * 2 ^ 1074) (d * 2 ^ P.k)) size_less) (le_of_eq (sym P.reads)))

  without : (t : Bool) (x : ℕ) → x ≤ 2047 * 2 ^ 52 → (cond t (2 ^ 63) 0 + x) % 2 ^ 63 ≡ x
  without true x h = omega arith
  without false x h = omega arith

  -- so it is finite too
  pub bits_small : to_bits binary64 (round binary64 s a c) % 2 ^ 63 < 2047 * 2 ^ 52
  bits_small =
      let x = k * 2 ^ 52 + q in
      let y = P.k * 2 ^ 52 + closest (b * 2 ^ 1074) (d * 2 ^ P.k) in
      let u : x ≤ 2047 * 2 ^ 52 = room k q (lt_of_le_of_lt fewer P.small) most in
      let v : y ≤ 2047 * 2 ^ 52 = room P.k (closest (b * 2 ^ 1074) (d * 2 ^ P.k)) P.small P.most in
      let w : y < 2047 * 2 ^ 52 = subst (λ (n : ℕ). n < 2047 * 2 ^ 52) (ap (λ (n : ℕ). n % 2 ^ 63) P.reads ∙ without s y v) hi in
      subst (λ (n : ℕ). n < 2047 * 2 ^ 52) (sym (ap (λ (n : ℕ). n % 2 ^ 63) reads ∙ without s x u)) (lt_of_le_of_lt size_less w)

-- ---- one cell

-- from lo to hi no multiple of 2 ^ 29 lies next to a half
cell : (lo mid hi p : ℕ) → lo ≤ mid → mid ≤ hi → ((lo + 2 ^ 28) % 2 ^ 29 ≡ 0 → ⊥) → (lo + 2 ^ 28) / 2 ^ 29 ≡ (hi + 2 ^ 28) / 2 ^ 29 → p < 2
    → mid + 268435455 + p - (mid + 268435455 + p) % 2 ^ 29 ≡ hi + 2 ^ 28 - (hi + 2 ^ 28) % 2 ^ 29
cell lo mid hi p a b n e h =
    let q = (lo + 2 ^ 28) / 2 ^ 29 in
    let u = cut_at (mid + 268435455 + p) q (omega arith) (omega arith) in
    let v = cut_at (hi + 2 ^ 28) q (omega arith) (omega arith) in
    u ∙ sym v
  where
    cut_at : (x q : ℕ) → q * 2 ^ 29 ≤ x → x < q * 2 ^ 29 + 2 ^ 29 → x - x % 2 ^ 29 ≡ q * 2 ^ 29
    cut_at x q l h = omega arith

-- and where it lies
within : (lo mid hi : ℕ) → lo ≤ mid → mid ≤ hi → hi < 2 ^ 64 → (lo + 2 ^ 28) / 2 ^ 29 ≡ (hi + 2 ^ 28) / 2 ^ 29 → 899 * 2 ^ 52 ≤ hi % 2 ^ 63 → hi % 2 ^ 63 < 1149 * 2 ^ 52
    → (898 * 2 ^ 52 ≤ mid % 2 ^ 63) × (mid % 2 ^ 63 < 1149 * 2 ^ 52)
within lo mid hi a b c e l h = let f : hi < lo + 2 ^ 29 = omega arith in (omega arith, omega arith)

-- ---- the law: of three fractions over one denominator

module _ (s : Bool) (a b c d : ℕ) (D : 0 < d) (ab : a ≤ b) (bc : b ≤ c) where
  abbrev bits : ℕ → ℕ
  bits n = to_bits binary64 (round binary64 s n d)

  pub between : 899 * 2 ^ 52 ≤ bits c % 2 ^ 63 → bits c % 2 ^ 63 < 1149 * 2 ^ 52 → ((bits a + 2 ^ 28) % 2 ^ 29 ≡ 0 → ⊥) → (bits a + 2 ^ 28) / 2 ^ 29 ≡ (bits c + 2 ^ 28) / 2 ^ 29
      → of_bits binary64 (bits c + 2 ^ 28 - (bits c + 2 ^ 28) % 2 ^ 29) ≡ narrowed (round binary64 s b d)
  between lo hi n e =
      let small : bits c % 2 ^ 63 < 2047 * 2 ^ 52 = omega arith in
      let up = bits_less s b d c d D D (mul-le-mul_right d bc) small in
      let down = bits_less s a d b d D D (mul-le-mul_right d ab) (bits_small s b d c d D D (mul-le-mul_right d bc) small) in
      let w = within (bits a) (bits b) (bits c) down up (to_bits-lt binary64 (round binary64 s c d) (round-fits binary64 s c d)) e lo hi in
      ap (of_bits binary64) (sym (cell (bits a) (bits b) (bits c) (bits b / 2 ^ 29 % 2) down up n e (mod-lt (bits b / 2 ^ 29) (lit< tt))))
      ∙ even_law (round binary64 s b d) (round-fits binary64 s b d) (bits b) refl (to_bits-lt binary64 (round binary64 s b d) (round-fits binary64 s b d)) w.0 w.1
