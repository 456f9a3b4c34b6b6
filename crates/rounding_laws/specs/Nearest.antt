-- What it means that a value of a format is an exact number, rounded once to the nearest, ties to even: in whole numbers, over every format. Definitions only. Assumes nothing.
use Rattle.std.specs.Prelude.{◌≡◌, Bool, false, ℕ, ◌+◌, ◌-◌, ◌*◌, ◌%◌, ◌^◌, ◌≤◌, ◌<◌, T, Float}
use Rattle.std.specs.Bool.{beq}
use Rattle.std.specs.Float.{nan, inf, fin, Format}
use Rattle.std.specs.Float.Ieee.{prec, emax, up, down, unlike, fits, to_bits}
use Rattle.std.specs.Float.Ieee.Scale.{finite}
use Rattle.rules.specs.Numbers.{product}
use Rattle.rounding_laws.specs.Total.{total_sign, total_size}

-- the number ±num / den
pub record Exact : Type 0 where
  pub sign : Bool
  pub num : ℕ
  pub den : ℕ

-- a finite float as it is (of others nothing is asked)
unfoldable pub exactly : Float → Exact
exactly nan = record { sign = false; num = 0; den = 1 }
exactly (inf s) = record { sign = s; num = 0; den = 1 }
exactly (fin s m e) = record { sign = s; num = m * up e; den = down e }

-- the sum of two numbers
unfoldable pub exact_sum : Exact → Exact → Exact
exact_sum v w =
    record {
      sign = total_sign v.sign (v.num * w.den) w.sign (w.num * v.den);
      num = total_size (beq v.sign w.sign) (v.num * w.den) (w.num * v.den);
      den = v.den * w.den;
    }

-- x * y + z
unfoldable pub exact_fused : Float → Float → Float → Exact
unfolding exact_sum exactly
exact_fused x y z = exact_sum (exactly (product x y)) (exactly z)

-- ---- how near a finite float is

-- |v - x|, as a fraction over v's denominator and x's own
abbrev pub distance : Exact → Float → ℕ
distance v nan = 0
distance v (inf s) = 0
distance v (fin s m e) = total_size (unlike v.sign s) (v.num * down e) (m * up e * v.den)

abbrev pub denominator : Float → ℕ
denominator nan = 1
denominator (inf s) = 1
denominator (fin s m e) = down e

-- x is at least as near to v as y is
abbrev pub AsNear : Exact → Float → Float → Type 0
AsNear v x y = distance v x * denominator y ≤ distance v y * denominator x

-- both are equally near
abbrev pub Tie : Exact → Float → Float → Type 0
Tie v x y = distance v x * denominator y ≡ distance v y * denominator x

-- the format's largest value and half the gap behind it: 2 ^ emax * (2 - 2 ^ -prec)
abbrev pub last_half_gap : Format → ℕ
last_half_gap f = (2 ^ (prec f + 1) - 1) * 2 ^ (emax f - prec f)

abbrev pub has_minus : Float → Bool
has_minus nan = false
has_minus (inf s) = s
has_minus (fin s m e) = s

-- r is v, rounded to the format f
pub record Nearest (f : Format) (v : Exact) (r : Float) : Type 0 where
  -- it is a value of the format, with v's sign
  pub held : T (fits f r)
  pub sign : has_minus r ≡ v.sign
  -- it is infinite from the last half gap on, and finite below
  pub over : last_half_gap f * v.den ≤ v.num → r ≡ inf v.sign
  pub under : v.num < last_half_gap f * v.den → T (finite r)
  -- no other value is nearer, and on a tie its significand, and so its pattern, is even
  pub near : T (finite r) → (y : Float) → T (fits f y) → T (finite y) → AsNear v r y
  pub even : T (finite r) → (y : Float) → T (fits f y) → T (finite y) → (y ≡ r → ⊥) → Tie v r y → to_bits f r % 2 ≡ 0
