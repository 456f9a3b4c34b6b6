-- Steps of a target seen in the pattern of a sum.
use Rattle.std.specs.Prelude.{◌≡◌, ℕ, ◌+◌, ◌-◌, ◌*◌, ◌/◌, ◌%◌, ◌^◌, ◌<◌, ◌≤◌, T, List, ◌≢◌, from_bits, slice_index, slice_index_or, Float}
use Rattle.std.specs.Float.{binary32, binary64}
use Rattle.std.specs.Float.Ieee.{fits, mul}
use Rattle.rules.specs.Numbers.{narrowed}
use Rattle.rules.specs.Samples.{log2e, decay_of, decay, factor_of}
use Rattle.rounding_laws.specs.Cut.{plain_cut}
use Rattle.decays.specs.Cell.{product, Lifts, Grown}
use Rattle.decays.specs.Told.{steps_in, Steps, shown}

-- b shows the steps of a target's factor at the phase x, which is halved `few` times at most
pub record Placed (few : ℕ) (x : Float) (b : ℕ) : Type 0 where
  pub lo : 2115 * 2 ^ 51 ≤ b
  pub hi : b < 2115 * 2 ^ 51 + (few + 1) * 2 ^ 42
  pub factor : narrowed (decay_of (steps_in b)) ≡ decay (mul binary64 x log2e)

-- k is one of the numbers of l in the places from..to
abbrev pub Listed : List ℕ → ℕ → ℕ → ℕ → Type 0
Listed l from to k = (j : ℕ) × (from ≤ j) × (j < to) × (slice_index l j ≡ k)

-- y is what stood in the place k, which is none of the first j that are listed
abbrev pub Left : {A : Type 0} → List ℕ → ℕ → List A → ℕ → A → Type 0
Left slow j l k y = (y ≡ slice_index_or l k y) × ((m : ℕ) → m < j → slice_index slow m ≢ k)

-- u shows a factor after the steps of b
pub record Factor (b u : ℕ) : Type 0 where
  pub steps : Steps b
  pub most : shown b u ≤ 1023 * 2 ^ 52
  pub fit : T (fits binary32 (from_bits binary64 (shown b u)))

-- b may show the floor of an x within 60 * 2 ^ 24 of 0
abbrev pub InLifts : ℕ → Type 0
InLifts b = (1082820 * 2 ^ 42 ≤ b) × (b < 1082940 * 2 ^ 42)

-- n may be the pattern of an estimate of a factor from 2 ^ -60 to 2 ^ 60
abbrev pub InGrown : ℕ → Type 0
InGrown n = (963 * 2 ^ 52 ≤ n) × (n ≤ 1083 * 2 ^ 52)

-- b shows a floor that is no multiple of 2 ^ 24, and n is the pattern of an estimate of its factor
abbrev pub Grows : ℕ → ℕ → Type 0
Grows b n = (b / 2 ^ 18 % 2 ^ 24 ≢ 0) × ((x : Float) → Lifts x b → Grown x n)

-- h and l are the patterns of from's products by an estimate n and by what lies 20 * 2 ^ 21 below it, and y is what the first rounds to
abbrev pub Celled : Float → ℕ → ℕ → ℕ → Float → Type 0
Celled from n h l y = (h ≡ product from n) × (l ≡ product from (n - 41943040)) × (y ≡ from_bits binary64 (plain_cut h))

-- l is not above h, and h leaves room
abbrev pub Ordered : ℕ → ℕ → Type 0
Ordered h l = (l ≤ h) × (h < 2 ^ 64 - 2 ^ 28)

-- no midpoint of two `f32` lies from l to h
abbrev pub OneCell : ℕ → ℕ → Type 0
OneCell h l = ((l + 2 ^ 28) % 2 ^ 29 ≢ 0) × ((l + 2 ^ 28) / 2 ^ 29 ≡ (h + 2 ^ 28) / 2 ^ 29)

-- y is the exponential sample for what b shows
abbrev pub Grew : Float → ℕ → Float → Type 0
Grew from b y = (x : Float) → Lifts x b → y ≡ narrowed (mul binary64 from (factor_of x))
