-- The end place of a number is its whole part, or the place behind that. Assumes nothing.
use Rattle.std.proofs.Common.{◌≡◌, ℕ, zero, suc, ◌+◌, ◌-◌, ◌^◌, ◌<◌, ◌≤◌, Bool, true, false, T, sym, refl, subst, zero-le, le_refl, zero-lt-suc, add-one, arith}
use lib.Ieee.{Float, lt, le}
use Rattle.rules.specs.Numbers.{wide, whole_part, limit, place_from}
use Rattle.laws.specs.Sound.{is_number}
use Rattle.laws.proofs.Order.{le_left, not_le, lt_not_le, lt_le_lt}
use Rattle.samples.specs.Search.{Among}
use Rattle.samples.proofs.Cut.{cut_lt, cut_ge}
use Rattle.samples.proofs.Floors.{wide_value}
use Rattle.samples.proofs.Places.{place_limit, limit_place, none_passed, places_passed}

module _ (q : Float) where
  -- what is below a limit has no whole part behind its place
  whole_least : (n : ℕ) → n < 2 ^ 53 → lt q (limit n) ≡ true → whole_part q < suc n
  unfolding whole_part
  whole_least n h l =
      let z = wide (suc n) in
      cut_lt z q (suc n) (wide_value (suc n) h) (zero-lt-suc n) (lt_not_le q z (lt_le_lt q (limit n) z l (limit_place n (omega arith))))

  -- a number is below its whole part's next place
  whole_most : is_number q ≡ true → (n : ℕ) → n < 2 ^ 53 → n ≡ whole_part q → lt q (wide (suc n)) ≡ true
  unfolding whole_part
  whole_most p n h e = go (le (wide (suc n)) q) refl
    where
      go : (b : Bool) → le (wide (suc n)) q ≡ b → lt q (wide (suc n)) ≡ true
      go true t = absurd (omega (arith, cut_ge (wide (suc n)) q (suc n) (wide_value (suc n) h) (zero-lt-suc n) (omega arith) (subst T (sym t) tt)))
      go false t = not_le (wide (suc n)) q (le_left (wide (suc n)) (limit (suc n)) (place_limit (suc n) h)) p t

  module _ (count : ℕ) (few : count ≤ 2 ^ 53) where
    pub all : Among q count 0 count
    all = record { upward = zero-le; within = le_refl count; passed = (none_passed q count).1; reached = λ l. absurd (omega arith) }

    passed_to : (low : ℕ) → low ≤ count → low ≤ whole_part q → place_from q count 0 ≡ place_from q (count - low) low
    passed_to zero h k = (none_passed q count).1
    passed_to (suc n) h k = places_passed q count n h few (go (lt q (limit n)) refl) (suc n) (le_refl (suc n))
      where
        go : (b : Bool) → lt q (limit n) ≡ b → b ≡ false
        go true e = absurd (omega (arith, whole_least n (omega arith) e))
        go false e = refl

    -- n is that whole part
    module _ (n : ℕ) (is : n ≡ whole_part q) where
      pub past : count ≤ n → Among q count count count
      past h = record { upward = le_refl count; within = le_refl count; passed = passed_to count (le_refl count) (omega arith); reached = λ l. absurd (omega arith) }

      pub two : is_number q ≡ true → n < count → Among q count n (n + 1)
      two p h =
          record {
            upward = omega arith;
            within = omega arith;
            passed = passed_to n (omega arith) (omega arith);
            reached = λ l. rw (add-one n) (lt_le_lt q (wide (suc n)) (limit (suc n)) (whole_most p n (omega arith) is) (place_limit (suc n) (omega arith)));
          }
