-- The bit pattern of a rounded fraction: its sign, how many digits are dropped, and the kept number. Over either format. Assumes nothing.
use mathlib.Core.Path.{◌≡◌, refl, sym, ap, ◌∙◌, subst}
use mathlib.Core.Logic.{◌⊎◌, inl, inr}
use mathlib.Core.Bool.{Bool, not, cond}
use Prim.Native.Nat.{ℕ, suc, ◌+◌, ◌-◌, ◌*◌, ◌/◌, ◌^◌, ◌≤◌, ◌<◌}
use native.Mathlib.Nat.{le_trans, le_of_eq, add-mul, mul_right_comm, mul-le-mul_right, le_of_mul-le-mul_right}
use native.Mathlib.Omega.{arith}
use lib.Dec.{T}
use lib.Pow.{pow-add, pow_pos, pow_mono}
use lib.Ieee.{inf, Format, prec, emax, low, size, round, hid, ones, top, to_bits}
use lib.Ieee.Fits.{two, reach, two-le_pos}
use lib.Ieee.Bits.{to_bits-of_bits, nan_bits_is}
use lib.Ieee.Nearest.{closest}
use Rattle.rounding_laws.proofs.Pack.{Drops, pack_round, round_inf, kept_le, kept_ge, twice_hid}
use Rattle.rounding_laws.proofs.At.{no_nan, pattern_lt}
use Rattle.rounding_laws.proofs.Sticky.{drops_own}

module _ (f : Format) (s : Bool) (num den : ℕ) (D : 0 < den) where
  abbrev n : ℕ
  n = num * 2 ^ low f

  abbrev pub own : ℕ
  own = size (n / den) - prec f

  abbrev kept : ℕ
  kept = closest n (den * 2 ^ own)

  pub own_drops : Drops (prec f) n den own
  own_drops = drops_own (prec f) n den (two-le_pos (prec f) (two f)) D

  pub most_own : kept ≤ 2 ^ prec f
  most_own = kept_le (prec f) n den own D own_drops.0

  pub least_own : (own ≡ 0) ⊎ (hid f ≤ kept)
  least_own = elim own_drops.1 [ inl z ↦ inl z | inr g ↦ inr (kept_ge (prec f) n den own D g) ]

  -- too many digits for the exponent's field
  pub over : ones f ≤ suc own → round f s num den ≡ inf s
  over h =
      round_inf f s num den D
      (le_of_mul-le-mul_right
      (le_trans (le_of_eq (mul_right_comm (2 ^ suc (emax f)) den (2 ^ low f) ∙ ap (λ (y : ℕ). y * den) (sym (pow-add 2 (suc (emax f)) (low f)))))
      (le_trans (mul-le-mul_right den (pow_mono (room (prec f) (emax f) own (two f) h))) (go own_drops.1)))
      (pow_pos (low f)))
    where
      room : (p e k : ℕ) → 2 ≤ p → 2 * e + 1 ≤ suc k → suc e + (e + p - 2) ≤ p - 1 + k
      room p e k a h = omega arith

      never : (p e k : ℕ) → 2 ≤ p → p ≤ suc e → 2 * e + 1 ≤ suc k → k ≡ 0 → ⊥
      never p e k a b h z = omega arith

      go : (own ≡ 0) ⊎ (2 ^ (prec f - 1 + own) * den ≤ n) → 2 ^ (prec f - 1 + own) * den ≤ n
      go (inl z) = absurd (never (prec f) (emax f) own (two f) (reach f) h z)
      go (inr g) = g

  pub reads_own : suc own < ones f → to_bits f (round f s num den) ≡ cond s (top f) 0 + (own * hid f + kept)
  reads_own h =
      let m = own * hid f + kept in
      ap (to_bits f) (sym (pack_round f s num den own kept D h own_drops refl))
      ∙ to_bits-of_bits f (cond s (top f) 0 + m) (pattern_lt f s m small) (subst (λ (b : Bool). T (not b)) (nan_bits_is f (cond s (top f) 0 + m)) (no_nan f s m small))
    where
      step : (k o : ℕ) → suc k < o → k + 2 ≤ o
      step k o h = omega arith

      small : own * hid f + kept ≤ ones f * hid f
      small =
          let a : kept ≤ 2 * hid f = subst (λ (i : ℕ). kept ≤ i) (twice_hid f) most_own in
          let b : (own + 2) * hid f ≤ ones f * hid f = mul-le-mul_right (hid f) (step own (ones f) h) in
          let c = add-mul own 2 (hid f) in
          omega arith
