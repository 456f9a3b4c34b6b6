-- What the patterns of `f64` values show.
use Rattle.std.specs.Prelude.{◌≡◌, not, ℕ, ◌-◌, ◌*◌, ◌/◌, ◌^◌, ◌≤◌, ◌<◌, T, Float}
use Rattle.std.proofs.Math.IntN.{sub_ℕ}
use Rattle.std.specs.Float.{nan, inf, fin, binary64}
use Rattle.std.specs.Float.Ieee.{up, down, of_bits, nan_bits}
use Rattle.rules.specs.Numbers.{whole_part}
use Rattle.rules.specs.Samples.{floor_of}

-- h is 2 ^ 33 more than the floor of x
unfoldable pub Lifted : Float → ℕ → Type 0
Lifted nan h = ⊥
Lifted (inf s) h = ⊥
Lifted (fin s m e) h = floor_of s (m * up e) (down e) ≡ sub_ℕ h (2 ^ 33)

-- b is the pattern of a number from 3 * 2 ^ 33 up to 2 ^ 35, whose digits before the last 18 show the whole part of x
pub record Raised (x : Float) (b : ℕ) : Type 0 where
  pub lo : 2115 * 2 ^ 51 ≤ b
  pub hi : b < 1058 * 2 ^ 52
  pub whole : (b - 2115 * 2 ^ 51) / 2 ^ 18 ≡ whole_part x

-- n is the pattern of y, which is no NaN
abbrev pub Holds : ℕ → Float → Type 0
Holds n y = (of_bits binary64 n ≡ y) × T (not (nan_bits binary64 n))
