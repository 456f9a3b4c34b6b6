-- d * 2 ^ e / 2 ^ G rounded, for a d below 2 ^ 64: by a shift of d, with the cases that code tells apart. Over either format. Assumes nothing.
use mathlib.Core.Path.{◌≡◌, refl, sym, ap, ◌∙◌, subst}
use mathlib.Core.Logic.{◌⊎◌, inl, inr}
use Prim.Native.Nat.{ℕ, suc, ◌+◌, ◌-◌, ◌*◌, ◌/◌, ◌%◌, ◌^◌, ◌≤◌, ◌<◌, compare}
use native.Mathlib.Nat.{le_refl, le_trans, le_of_eq, lt_of_lt_of_le, lt_of_le_of_lt, add_comm, add-zero, add-mul, zero-mul, mul-one, mul-pos, mul_comm, mul_assoc, mul-le-mul_right, mul-lt-mul_of_pos_right, div-eq_of_lt, mod-eq_of_lt, add-mod_left, zero-add}
use native.Mathlib.Omega.{arith}
use mathlib.Core.Bool.{Bool, true, false, not, cond}
use lib.Dec.{T, ltb}
use lib.Arith.{le→nltb}
use lib.Pow.{pow-add, pow_pos, pow_mono, shl_lt, shr_lt}
use lib.Ieee.{Format, prec, emax, low, round, nearest, hid, ones, top, of_bits, nan_bits}
use lib.Ieee.Fits.{nearest-le, two, two-le_pos, reach}
use lib.Ieee.Bits.{nan_bits_above}
use lib.Ieee.Nearest.{closest, closest_same}
use Rattle.rounding_laws.proofs.Closest.{near_lt}
use Rattle.rounding_laws.specs.Parts.{Packed}
use Rattle.rounding_laws.proofs.Pack.{Drops, pack_round, fields_inf, round_inf, twice_hid, most_digits}

-- ---- d * 2 ^ e * 2 ^ l against powers of two
pub both : (d e l : ℕ) → d * 2 ^ e * 2 ^ l ≡ d * 2 ^ (e + l)
both d e l = mul_assoc d (2 ^ e) (2 ^ l) ∙ ap (λ (x : ℕ). d * x) (sym (pow-add 2 e l))

pub scaled_lt : (d e l a b G : ℕ) → d < 2 ^ a → a + (e + l) ≤ b + G → d * 2 ^ e * 2 ^ l < 2 ^ b * 2 ^ G
scaled_lt d e l a b G h k =
    subst (λ (x : ℕ). x < 2 ^ b * 2 ^ G) (sym (both d e l))
    (lt_of_lt_of_le (shl_lt a (e + l) h) (le_trans (pow_mono k) (le_of_eq (pow-add 2 b G))))

pub scaled_ge : (d e l a b G : ℕ) → 2 ^ a ≤ d → b + G ≤ a + (e + l) → 2 ^ b * 2 ^ G ≤ d * 2 ^ e * 2 ^ l
scaled_ge d e l a b G h k =
    subst (λ (x : ℕ). 2 ^ b * 2 ^ G ≤ x) (sym (both d e l))
    (le_trans (le_of_eq (sym (pow-add 2 b G))) (le_trans (pow_mono k) (le_trans (le_of_eq (pow-add 2 a (e + l))) (mul-le-mul_right (2 ^ (e + l)) h))))

pub scaled_closest : (d e l G k sh : ℕ) → e + l + sh ≡ G + k → closest d (2 ^ sh) ≡ closest (d * 2 ^ e * 2 ^ l) (2 ^ G * 2 ^ k)
scaled_closest d e l G k sh h =
    closest_same d (2 ^ sh) (d * 2 ^ e * 2 ^ l) (2 ^ G * 2 ^ k) (pow_pos sh) (mul-pos (pow_pos G) (pow_pos k))
    (ap (λ (x : ℕ). d * x) (sym (pow-add 2 G k) ∙ ap (λ (x : ℕ). 2 ^ x) (sym h) ∙ pow-add 2 (e + l) sh) ∙ sym (mul_assoc d (2 ^ (e + l)) (2 ^ sh)) ∙ ap (λ (x : ℕ). x * 2 ^ sh) (sym (both d e l)))

hi_exp : (e l sh G k p : ℕ) → e + l + sh ≡ G + k → 64 ≤ sh + p → sh + p ≡ 64 → 64 + (e + l) ≤ p + k + G
hi_exp e l sh G k p h g o = omega arith

lo_exp : (e l sh G k p : ℕ) → 0 < p → e + l + sh ≡ G + k → sh + p ≡ 64 → p - 1 + k + G ≤ 63 + (e + l)
lo_exp e l sh G k p P h o = omega arith

low_exp : (e l sh G k p : ℕ) → e + l + sh ≡ G + k → 64 ≤ sh + p → k ≡ 0 → 64 + (e + l) ≤ p + k + G
low_exp e l sh G k p h g z = omega arith

-- The pattern for d * 2 ^ e / 2 ^ G, where k digits are dropped. In the normal range d has its highest bit at 63, and the shift is 64 - prec. Below it k is 0, and the shift is larger.
pub pack_at : (f : Format) (s : Bool) (d e G k sh q : ℕ) → suc k < ones f → e + low f + sh ≡ G + k → d < 2 ^ 64 → 64 ≤ sh + prec f
    → (k ≡ 0) ⊎ ((2 ^ 63 ≤ d) × (sh + prec f ≡ 64)) → q ≡ closest d (2 ^ sh)
    → of_bits f (cond s (top f) 0 + (k * hid f + q)) ≡ round f s (d * 2 ^ e) (2 ^ G)
pack_at f s d e G k sh q K h D g c e1 =
    pack_round f s (d * 2 ^ e) (2 ^ G) k q (pow_pos G) K (drops c) (e1 ∙ scaled_closest d e (low f) G k sh h)
  where
    drops : (k ≡ 0) ⊎ ((2 ^ 63 ≤ d) × (sh + prec f ≡ 64)) → Drops (prec f) (d * 2 ^ e * 2 ^ low f) (2 ^ G) k
    drops (inl z) = (scaled_lt d e (low f) 64 (prec f + k) G D (low_exp e (low f) sh G k (prec f) h g z), inl z)
    drops (inr w) = (
      scaled_lt d e (low f) 64 (prec f + k) G D (hi_exp e (low f) sh G k (prec f) h g w.1),
      inr (scaled_ge d e (low f) 63 (prec f - 1 + k) G w.0 (lo_exp e (low f) sh G k (prec f) (two-le_pos (prec f) (two f)) h w.1)),
    )

-- the rounded number is small
pub shifted_le : (p d sh : ℕ) → d < 2 ^ 64 → 64 ≤ sh + p → closest d (2 ^ sh) ≤ 2 ^ p
shifted_le p d sh D g =
    le_trans (nearest-le (d / 2 ^ sh) (compare (d % 2 ^ sh * 2) (2 ^ sh)))
    (shr_lt p sh (lt_of_lt_of_le D (pow_mono (le_trans g (le_of_eq (add_comm sh p))))))

-- far below the smallest value nothing is left
pub shifted_out : (d sh : ℕ) → d < 2 ^ 64 → 65 ≤ sh → closest d (2 ^ sh) ≡ 0
shifted_out d sh D g =
    let big : 2 ^ 65 ≤ 2 ^ sh = pow_mono g in
    let l : d < 2 ^ sh = less d (2 ^ sh) D big in
    ap (λ (x : ℕ). nearest x (compare (d % 2 ^ sh * 2) (2 ^ sh))) (div-eq_of_lt l)
    ∙ near_lt 0 (d % 2 ^ sh * 2) (2 ^ sh) (subst (λ (x : ℕ). x * 2 < 2 ^ sh) (sym (mod-eq_of_lt l)) (half d (2 ^ sh) D big))
  where
    less : (d u : ℕ) → d < 2 ^ 64 → 2 ^ 65 ≤ u → d < u
    less d u h k = omega arith

    half : (d u : ℕ) → d < 2 ^ 64 → 2 ^ 65 ≤ u → d * 2 < u
    half d u h k = omega arith

-- from 2 ^ (emax + 1) on it is an infinity
pub pack_inf : (f : Format) (s : Bool) (d e G : ℕ) → 2 ^ 63 ≤ d → suc (emax f) + G ≤ 63 + e → of_bits f (cond s (top f) 0 + ones f * hid f) ≡ round f s (d * 2 ^ e) (2 ^ G)
pack_inf f s d e G h k =
    fields_inf f s
    ∙ sym (round_inf f s (d * 2 ^ e) (2 ^ G) (pow_pos G) (subst (λ (x : ℕ). 2 ^ suc (emax f) * 2 ^ G ≤ x) (mul-one (d * 2 ^ e)) (scaled_ge d e 0 63 (suc (emax f)) G h (le_trans k (le_of_eq (ap (λ (x : ℕ). 63 + x) (sym (add-zero e))))))))

-- ---- the cases that code tells apart, for a d with its highest bit at 63, or an e up to the exponent of the smallest normal numbers
module _ (f : Format) (d e G base : ℕ) (D : d < 2 ^ 64) (at : base + low f + (64 - prec f) ≡ G) (lead : (2 ^ 63 ≤ d) ⊎ (e ≤ base)) where
  digits : (p : ℕ) → p ≤ 61 → (64 ≤ 64 - p + p) × (64 - p + p ≡ 64)
  digits p h = (omega arith, omega arith)

  pub packed_inf : base + 2 * emax f ≤ e → Packed f d e G (ones f * hid f)
  packed_inf h =
      record {
        most = le_refl (ones f * hid f);
        rounds = λ s. pack_inf f s d e G (elim lead [ inl l ↦ l | inr l ↦ absurd (no (emax f) (prec f) (two f) (reach f) l h) ]) (sums base (emax f) (prec f) (two f) (most_digits f) at h);
      }
    where
      no : (E p : ℕ) → 2 ≤ p → p ≤ suc E → e ≤ base → base + 2 * E ≤ e → ⊥
      no E p a b h k = omega arith

      sums : (base E p : ℕ) → 2 ≤ p → p ≤ 61 → base + (E + p - 2) + (64 - p) ≡ G → base + 2 * E ≤ e → suc E + G ≤ 63 + e
      sums base E p a b g h = omega arith

  pub packed_normal : (q : ℕ) → base ≤ e → e < base + 2 * emax f → q ≡ closest d (2 ^ (64 - prec f)) → Packed f d e G ((e - base) * hid f + q)
  packed_normal q h k c =
      record {
        most = most;
        rounds = λ s. pack_at f s d e G (e - base) (64 - prec f) q (less e base (emax f) h k) (shift e base (low f) (64 - prec f) G at h) D (digits (prec f) (most_digits f)).0 (lead' lead) c;
      }
    where
      less : (e base E : ℕ) → base ≤ e → e < base + 2 * E → suc (e - base) < 2 * E + 1
      less e base E h k = omega arith

      shift : (e base l s G : ℕ) → base + l + s ≡ G → base ≤ e → e + l + s ≡ G + (e - base)
      shift e base l s G g h = omega arith

      lead' : (2 ^ 63 ≤ d) ⊎ (e ≤ base) → (e - base ≡ 0) ⊎ ((2 ^ 63 ≤ d) × (64 - prec f + prec f ≡ 64))
      lead' (inl l) = inr (l, (digits (prec f) (most_digits f)).1)
      lead' (inr l) = inl (omega arith)

      most : (e - base) * hid f + q ≤ ones f * hid f
      most =
          let a : q ≤ 2 * hid f = subst (λ (x : ℕ). x ≤ 2 * hid f) (sym c) (le_trans (shifted_le (prec f) d (64 - prec f) D (digits (prec f) (most_digits f)).0) (le_of_eq (twice_hid f))) in
          let b : (e - base + 2) * hid f ≤ ones f * hid f = mul-le-mul_right (hid f) (step e base (emax f) h k) in
          let s = add-mul (e - base) 2 (hid f) in
          omega arith
        where
          step : (e base E : ℕ) → base ≤ e → e < base + 2 * E → e - base + 2 ≤ 2 * E + 1
          step e base E h k = omega arith

  -- below the normal numbers
  pub packed_low : (sh q : ℕ) → e + sh ≡ base + (64 - prec f) → e ≤ base → q ≡ closest d (2 ^ sh) → Packed f d e G q
  packed_low sh q h k c =
      record {
        most = le_trans (subst (λ (x : ℕ). x ≤ 2 * hid f) (sym c) (le_trans (shifted_le (prec f) d sh D (wide sh (prec f) (most_digits f) h)) (le_of_eq (twice_hid f)))) (mul-le-mul_right (hid f) (some (emax f) (prec f) (two f) (reach f)));
        rounds = λ s.
            ap (λ (x : ℕ). of_bits f (cond s (top f) 0 + x)) (sym (ap (λ (x : ℕ). x + q) (zero-mul (hid f)) ∙ zero-add q))
            ∙ pack_at f s d e G 0 sh q (some' (emax f) (prec f) (two f) (reach f)) (shift e base (low f) sh (64 - prec f) G at h) D (wide sh (prec f) (most_digits f) h) (inl refl) c;
      }
    where
      wide : (sh p : ℕ) → p ≤ 61 → e + sh ≡ base + (64 - p) → 64 ≤ sh + p
      wide sh p a g = omega arith

      some : (E p : ℕ) → 2 ≤ p → p ≤ suc E → 2 ≤ 2 * E + 1
      some E p a b = omega arith

      some' : (E p : ℕ) → 2 ≤ p → p ≤ suc E → 1 < 2 * E + 1
      some' E p a b = omega arith

      shift : (e base l sh s G : ℕ) → base + l + s ≡ G → e + sh ≡ base + s → e + l + sh ≡ G + 0
      shift e base l sh s G g h = omega arith

  -- and far below the smallest value
  pub packed_none : (sh : ℕ) → e + sh ≡ base + (64 - prec f) → e ≤ base → 65 ≤ sh → Packed f d e G 0
  packed_none sh h k l = packed_low sh 0 h k (sym (shifted_out d sh D l))

-- ---- such a pattern is no NaN's
rest : (c m : ℕ) → m < c → (s : Bool) → (cond s c 0 + m) % c ≡ m
rest c m h true = add-mod_left c m ∙ mod-eq_of_lt h
rest c m h false = ap (λ (x : ℕ). x % c) (zero-add m) ∙ mod-eq_of_lt h

-- a pattern without its sign is below the sign's weight
below_sign : (f : Format) (m : ℕ) → m ≤ ones f * hid f → m < top f
below_sign f m h = lt_of_le_of_lt h (subst (λ (x : ℕ). ones f * hid f < x) (mul_comm (suc (ones f)) (hid f)) (mul-lt-mul_of_pos_right (le_refl (suc (ones f))) (pow_pos (prec f - 1))))

pub pattern_lt : (f : Format) (s : Bool) (m : ℕ) → m ≤ ones f * hid f → cond s (top f) 0 + m < 2 * top f
pattern_lt f true m h = let l = below_sign f m h in omega arith
pattern_lt f false m h = let l = below_sign f m h in omega arith

pub no_nan : (f : Format) (s : Bool) (m : ℕ) → m ≤ ones f * hid f → T (not (nan_bits f (cond s (top f) 0 + m)))
no_nan f s m h =
    subst (λ (b : Bool). T (not b)) (sym (nan_bits_above f (cond s (top f) 0 + m) ∙ ap (λ (x : ℕ). ltb (ones f * hid f) x) (rest (top f) m (below_sign f m h) s)))
    (le→nltb (ones f * hid f) m h)
