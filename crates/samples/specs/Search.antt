-- 02, C-13, "one that halves the range": what the search for 01's end place keeps, and how many tests it may take.
use Rattle.std.specs.Prelude.{◌≡◌, ℕ, ◌-◌, ◌*◌, ◌^◌, ◌<◌, ◌≤◌, true, Float}
use Rattle.std.specs.Float.Ieee.{lt}
use Rattle.rules.specs.Numbers.{limit, place_from}
use Rattle.laws.specs.Sound.{is_number}

-- One of the places from `low` to `high` is the end place: every limit before `low` is passed, and `high` is the count or its limit is above q.
pub record Among (q : Float) (count low high : ℕ) : Type 0 where
  pub upward : low ≤ high
  pub within : high ≤ count
  pub passed : place_from q count 0 ≡ place_from q (count - low) low
  pub reached : high < count → lt q (limit high) ≡ true

-- at most 2 + log2(count) tests, whatever q is, and 2 where it is a number (ours: 02 names no bound)
pub record FewTests (q : Float) (count tests : ℕ) : Type 0 where
  pub most : 0 < count → 2 ^ tests ≤ 4 * count
  pub number : is_number q ≡ true → tests ≤ 2
