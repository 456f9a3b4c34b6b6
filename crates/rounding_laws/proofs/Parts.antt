-- A finite value of a format taken apart by its bit pattern (`Parted`). Over either format. Assumes nothing.
use mathlib.Core.Path.{◌≡◌, refl, sym, subst}
use mathlib.Core.Logic.{◌⊎◌, inl, inr}
use Prim.Native.Nat.{ℕ, zero, suc, ◌-◌, ◌*◌, ◌/◌, ◌%◌, ◌^◌, ◌≤◌, ◌<◌}
use native.Mathlib.Nat.{lt_of_lt_of_le, le_of_eq, mod-lt, mul-pos, mul_comm, zero-lt-suc, div-lt_iff_lt-mul}
use native.Mathlib.Omega.{arith}
use lib.Dec.{T, leb}
use lib.Pow.{pow_pos}
use lib.Ieee.{Float, Format, prec, low, hid, ones, top, fits, to_bits, of_bits}
use lib.Ieee.Bits.{of_bits-to_bits}
use lib.Ieee.Exact.{HasValue}
use lib.Ieee.Scale.{finite}
use Rattle.rounding_laws.specs.Parts.{Parted}
use Rattle.rounding_laws.proofs.Value.{digits, power, bits_value}
use Rattle.rounding_laws.proofs.Pack.{twice_hid}
use Rattle.rounding_laws.proofs.Decode.{finite_field}

-- b is a pattern of x
module _ (f : Format) (x : Float) (b : ℕ) (back : of_bits f b ≡ x) (fine : T (finite x)) where
  abbrev at : ℕ
  at = b % top f / hid f

  reach : at < ones f
  reach = less at (ones f) ((div-lt_iff_lt-mul (pow_pos (prec f - 1))).1 (lt_of_lt_of_le (mod-lt b (mul-pos (pow_pos (prec f - 1)) (zero-lt-suc (ones f)))) (le_of_eq (mul_comm (hid f) (suc (ones f))))))
      (finite_field f b (subst (λ (v : Float). T (finite v)) (sym back) fine))
    where
      less : (e o : ℕ) → e < suc o → (e ≡ o → ⊥) → e < o
      less e o h n = omega arith

  parted_whole : Parted f x (leb (top f) b) (digits f at (b % hid f)) (power at)
  parted_whole =
      record {
        value = subst (λ (v : Float). HasValue v (leb (top f) b) (digits f at (b % hid f) * 2 ^ power at) (2 ^ low f)) back (bits_value f b reach);
        short = subst (λ (w : ℕ). digits f at (b % hid f) < w) (sym (twice_hid f)) (short at (b % hid f) (mod-lt b (pow_pos (prec f - 1))));
        reach = under at reach;
        lead = lead at (b % hid f);
      }
    where
      short : (e t : ℕ) → t < hid f → digits f e t < 2 * hid f
      short zero t h = omega arith
      short (suc e) t h = omega arith

      under : (e : ℕ) → e < ones f → power e < ones f
      under zero h = h
      under (suc e) h = omega arith

      lead : (e t : ℕ) → (hid f ≤ digits f e t) ⊎ (power e ≡ 0)
      lead zero t = inr refl
      lead (suc e) t = inl (omega arith)

  -- with the field given
  pub parted_of : (e : ℕ) → at ≡ e → Parted f x (leb (top f) b) (digits f e (b % hid f)) (power e)
  parted_of e h = subst (λ (e : ℕ). Parted f x (leb (top f) b) (digits f e (b % hid f)) (power e)) h parted_whole

-- by its own pattern
module _ (f : Format) (x : Float) (fit : T (fits f x)) (fine : T (finite x)) where
  abbrev pub field : ℕ
  field = to_bits f x % top f / hid f

  pub parted : Parted f x (leb (top f) (to_bits f x)) (digits f field (to_bits f x % hid f)) (power field)
  parted = parted_of f x (to_bits f x) (of_bits-to_bits f x fit) fine field refl
