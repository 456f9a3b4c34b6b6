-- A curve's sample by the tests that lead to it. Assumes nothing.
use Rattle.std.proofs.Common.{◌≡◌, ℕ, zero, suc, ◌+◌, ◌-◌, ◌<◌, ◌≤◌, true, false, List, [], ◌∷◌, length, get_or, refl, ◌∙◌, le_of_suc-le-suc, add-one, arith}
use lib.Ieee.{Float, nan, binary32, binary64, sub, mul, div, le}
use Rattle.rules.specs.Numbers.{plus_zero, wide, whole_part, fused, narrowed}
use Rattle.rules.specs.Samples.{last_number, between, curve_position, curve_sample}
use Rattle.samples.proofs.Cut.{cut_lt}
use Rattle.samples.proofs.Floors.{wide_value}

-- what is read beyond the end does not matter within
within : (xs : List Float) (k : ℕ) → k < length xs → get_or xs k nan ≡ get_or xs k plus_zero
within [] k h = absurd (omega arith)
within (x ∷ xs) zero h = refl
within (x ∷ xs) (suc k) h = within xs k (le_of_suc-le-suc h)

module _ (xs : List Float) (start duration time : Float) (some : 2 ≤ length xs) (few : length xs ≤ 4096) where
  abbrev since : Float
  since = sub binary64 time start

  abbrev top : Float
  top = wide (length xs - 1)

  abbrev position : Float
  position = div binary64 (mul binary64 top since) duration

  pub curve_ended : le duration since ≡ true → get_or xs (length xs - 1) nan ≡ curve_sample xs start duration time
  unfolding curve_sample last_number
  curve_ended h = rw (h, within xs (length xs - 1) (omega arith))

  module _ (h : le duration since ≡ false) where
    pub curve_full : le top position ≡ true → get_or xs (length xs - 1) nan ≡ curve_sample xs start duration time
    unfolding curve_sample last_number curve_position
    curve_full g = rw (h, g, within xs (length xs - 1) (omega arith))

    module _ (g : le top position ≡ false) where
      pub inside : whole_part position < length xs - 1
      unfolding whole_part
      inside = cut_lt top position (length xs - 1) (wide_value (length xs - 1) (omega arith)) (omega arith) g

      pub curve_between : (k : ℕ) (v next phase : Float) → k ≡ whole_part position → v ≡ get_or xs k nan → next ≡ get_or xs (k + 1) nan → phase ≡ narrowed (sub binary64 position (wide k))
          → fused binary32 (sub binary32 next v) phase v ≡ curve_sample xs start duration time
      unfolding curve_sample curve_position between
      curve_between k v next phase e f n p =
          let f' : v ≡ get_or xs k plus_zero = f ∙ within xs k (omega (arith, inside)) in
          let n' : next ≡ get_or xs (suc k) plus_zero = n ∙ within xs (k + 1) (omega (arith, inside)) ∙ rw (add-one k) in
          rw (h, g, ← e, p, f', n')
