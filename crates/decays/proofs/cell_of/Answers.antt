-- `decays::cell_of` meets its contract. Assumes nothing.
use mathlib.Core.Path.{◌≡◌, refl, ◌∙◌}
use mathlib.Core.Bool.{not}
use Prim.Native.Nat.{ℕ, ◌+◌, ◌-◌, ◌*◌, ◌/◌, ◌%◌, ◌^◌, ◌≤◌, ◌<◌}
use native.Mathlib.Omega.{arith}
use lib.Dec.{T}
use lib.Ieee.{Float, binary64, mul, of_bits, is_nan}
use lib.Ieee.Fits.{mul-fits}
use lib.Ieee.Bits.{to_bits-lt}
use lib.Ieee.Scale.{finite}
use Rattle.rounding_laws.proofs.Wide.{mul_no_nan, pattern_finite}
use Rattle.decays.specs.Cell.{product}
use Rattle.decays.proofs.Growth.{small_nan}
use Rattle.decays.proofs.cell_of.Goals as goal

-- no product is a NaN
small : (n : ℕ) → n ≤ 2046 * 2 ^ 52 → n % 2 ^ 63 < 2047 * 2 ^ 52
small n h = omega arith

products : (from : Float) (n : ℕ) → T (finite from) → n ≤ 2046 * 2 ^ 52 → T (not (is_nan (mul binary64 from (of_bits binary64 n))))
products from n f h = mul_no_nan binary64 from (of_bits binary64 n) f (pattern_finite n (small n h))

below : (from : Float) (n : ℕ) → product from n < 2 ^ 64
below from n = to_bits-lt binary64 (mul binary64 from (of_bits binary64 n)) (mul-fits binary64 from (of_bits binary64 n))

-- a pattern next to a half, and its cell
half : (l : ℕ) → (l % 2 ^ 29 ≡ 2 ^ 28 → ⊥) → ((l + 2 ^ 28) % 2 ^ 29 ≡ 0 → ⊥) × ((l + 2 ^ 28) / 2 ^ 29 ≡ (l / 2 ^ 28 + 1) / 2)
half l n = ((λ z. n (omega arith)), omega arith)

room : (n : ℕ) → n % 2 ^ 63 < 1149 * 2 ^ 52 → n < 2 ^ 64 → n + 2 ^ 28 < 2 ^ 64
room n h l = omega arith

half_room : (n : ℕ) → n < 2 ^ 64 → n / 2 ^ 28 + 1 < 2 ^ 64
half_room n l = omega arith

pub float_from_bits-high : goal.float_from_bits-high
float_from_bits-high c = small_nan c.args.n c.requires.2

pub float_to_bits-high : goal.float_to_bits-high
float_to_bits-high c = products c.args.from c.args.n c.requires.0 c.requires.2

pub float_from_bits-low : goal.float_from_bits-low
float_from_bits-low c = small_nan (c.args.n - 41943040) (omega (arith, c.requires.2))

pub float_to_bits-low : goal.float_to_bits-low
float_to_bits-low c = products c.args.from (c.args.n - 41943040) c.requires.0 (omega (arith, c.requires.2))

pub overflow_add-r : goal.overflow_add-r
overflow_add-r c = let a = c.args in record { fits = room (product a.from a.n) c.if-m-lt5174635971848699904.true (below a.from a.n) }

pub overflow_add-low : goal.overflow_add-low
overflow_add-low c = let a = c.args in record { fits = half_room (product a.from (a.n - 41943040)) (below a.from (a.n - 41943040)) }

pub returns-then-low-r : goal.returns-then-low-r
returns-then-low-r c =
    let a = c.args in
    let u = half (product a.from (a.n - 41943040)) c.if-low-ne268435456.true in
    record { lo = c.if-m-ge4048736065006075904.true; hi = c.if-m-lt5174635971848699904.true; apart = u.0; same = u.1 ∙ c.if-low-r.true; cut = refl }
