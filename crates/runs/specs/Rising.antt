-- When the phases of a run, or its positions in a curve, rise, as far as a test of its numbers shows.
use Rattle.std.specs.Prelude.{◌≡◌, ℕ, ◌+◌, ◌*◌, ◌^◌, ◌<◌, ◌≤◌, true, false, not, T, List, get_or, is_nan, slice_index_or, to_bits, Float}
use Rattle.std.specs.Float.{nan, binary32, binary64}
use Rattle.std.specs.Float.Ieee.{fits, sub, mul, div, le, lt}
use Rattle.std.specs.Float.Ieee.Exact.{HasValue}
use Rattle.rules.specs.Numbers.{plus_zero, wide, whole_part}
use Rattle.phases.specs.Once.{Within}
use Rattle.runs.specs.Passes.{phase_sum}

-- x is n times the smallest value of an f64
abbrev pub Is : Float → ℕ → Type 0
Is x n = HasValue x false n (2 ^ 1074)

-- a finite number of f64 that has no sign, by its pattern
abbrev pub Plain : Float → Type 0
Plain x = T (not (is_nan x)) × (to_bits binary64 x < 2047 * 2 ^ 52) × T (fits binary64 x)

-- phases rise with the time
pub record Steady (start duration period : Float) : Type 0 where
  pub start_plain : Plain start
  pub duration_plain : Plain duration
  pub period_plain : Plain period
  pub some : lt plus_zero duration ≡ true

pub record Started (start time : Float) : Type 0 where
  pub time_plain : Plain time
  pub begun : le start time ≡ true

-- and so the phases from this time on rise
pub record Rises (start duration time period : Float) : Type 0 where
  pub steady : Steady start duration period
  pub started : Started start time

-- a pattern from bx on, and one up to 1.0's
abbrev pub Spans : ℕ → Float → Float → Type 0
Spans bx x y = T (not (is_nan x)) × T (not (is_nan y)) × (bx ≤ to_bits binary64 x) × (to_bits binary64 y ≤ 1023 * 2 ^ 52)

-- sixteen that lie between the first and the last of them, as far as patterns show
abbrev pub Between : List Float → Type 0
Between xs = (bx : ℕ) → Spans bx (slice_index_or xs 0 nan) (slice_index_or xs 15 nan) → (i : ℕ) → i < 16 → Within bx (slice_index_or xs i nan)

-- the position in a curve whose last number has the place n
unfoldable pub position_of : Float → Float → Float → Float → Float
position_of n start duration time = div binary64 (mul binary64 n (sub binary64 time start)) duration

-- the curve's sample at a position between two numbers
unfoldable pub at_position : List Float → Float → Float
at_position xs p =
    let k = whole_part p in
    let from = get_or xs k nan in
    phase_sum from (sub binary32 (slice_index_or xs (k + 1) nan) from) (sub binary64 p (wide k))

-- sixteen positions that lie between the first and the last of them, below the place top
pub record Climbs (top : ℕ) (ps : List Float) : Type 0 where
  pub first : ℕ
  pub last : ℕ
  pub first_is : Is (slice_index_or ps 0 nan) first
  pub last_is : Is (slice_index_or ps 15 nan) last
  pub under : last < top * 2 ^ 1074
  pub each_is : (i : ℕ) → i < 16 → (n : ℕ) × Is (slice_index_or ps i nan) n × (first ≤ n) × (n ≤ last)
