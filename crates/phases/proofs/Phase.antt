-- A phase up to 1, rounded to an `f32` by its pattern (`rounding_laws`' Cut). Assumes nothing.
use mathlib.Core.Path.{◌≡◌, refl, sym, subst}
use mathlib.Core.Bool.{Bool, not}
use Prim.Native.Nat.{ℕ, ◌+◌, ◌-◌, ◌*◌, ◌/◌, ◌%◌, ◌^◌, ◌≤◌, ◌<◌}
use native.Mathlib.Omega.{arith}
use lib.Dec.{T}
use lib.Ieee.{Float, binary32, binary64, of_bits, to_bits, fits, is_nan, nan_bits}
use lib.Ieee.Bits.{nan_bits_is}
use lib.Ieee.Scale.{finite}
use Rattle.rules.specs.Numbers.{narrowed}
use Rattle.rounding_laws.proofs.Cut.{even_law, even_nan, narrowed_fits}
use Rattle.rounding_laws.proofs.Wide.{pattern_finite}

abbrev pub cut : ℕ → ℕ
cut b = b + 268435455 + b / 2 ^ 29 % 2 - (b + 268435455 + b / 2 ^ 29 % 2) % 2 ^ 29

pub cut_small : (b : ℕ) → b ≤ 1023 * 2 ^ 52 → cut b ≤ 1023 * 2 ^ 52
cut_small b hi = go (b / 2 ^ 29) (b % 2 ^ 29) (b / 2 ^ 29 % 2) (cut b) (omega arith) (omega arith) (omega arith) (omega arith)
  where
    go : (d r p n : ℕ) → d * 2 ^ 29 + r ≤ 1023 * 2 ^ 52 → r < 2 ^ 29 → p < 2 → n ≡ d * 2 ^ 29 + r + 268435455 + p - (d * 2 ^ 29 + r + 268435455 + p) % 2 ^ 29 → n ≤ 1023 * 2 ^ 52
    go d r p n h l k e = omega arith

module _ (x : Float) (held : T (fits binary64 x)) (lo : 898 * 2 ^ 52 ≤ to_bits binary64 x) (hi : to_bits binary64 x ≤ 1023 * 2 ^ 52) where
  abbrev b : ℕ
  b = to_bits binary64 x

  abbrev pub phase : Float
  phase = of_bits binary64 (cut b)

  ranges : (b < 2 ^ 64) × (898 * 2 ^ 52 ≤ b % 2 ^ 63) × (b % 2 ^ 63 < 1149 * 2 ^ 52)
  ranges = plain_lo b lo hi
    where
      plain_lo : (b : ℕ) → 898 * 2 ^ 52 ≤ b → b ≤ 1023 * 2 ^ 52 → (b < 2 ^ 64) × (898 * 2 ^ 52 ≤ b % 2 ^ 63) × (b % 2 ^ 63 < 1149 * 2 ^ 52)
      plain_lo b lo hi = (omega arith, omega arith, omega arith)

  pub phase_is : phase ≡ narrowed x
  phase_is = even_law x held b refl ranges.0 ranges.1 ranges.2

  pub phase_finite : T (finite phase)
  phase_finite = pattern_finite (cut b) (less (cut b) (cut_small b hi))
    where
      less : (n : ℕ) → n ≤ 1023 * 2 ^ 52 → n % 2 ^ 63 < 2047 * 2 ^ 52
      less n h = omega arith

  pub cut_nan : T (not (nan_bits binary64 (cut b)))
  cut_nan = even_nan b ranges.0 ranges.1 ranges.2

  pub phase_nan : T (not (is_nan phase))
  phase_nan = subst (λ (t : Bool). T (not t)) (nan_bits_is binary64 (cut b)) cut_nan

  pub phase_fits : T (fits binary32 phase)
  phase_fits = subst (λ (v : Float). T (fits binary32 v)) (sym phase_is) (narrowed_fits x)
