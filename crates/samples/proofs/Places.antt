-- The search for an end place may begin past all places whose limits are seen not to exceed q. Assumes nothing.
use Rattle.std.proofs.Common.{◌≡◌, ℕ, zero, suc, ◌+◌, ◌-◌, ◌*◌, ◌^◌, ◌<◌, ◌≤◌, Bool, true, false, negsuc, refl, ◌∙◌, arith, lit≤}
use lib.Ieee.{Float, fin, binary64, round, sum, lt, le, of_int}
use lib.Ieee.Order.{round_mono}
use Rattle.rules.specs.Numbers.{wide, limit, place_from}
use Rattle.laws.proofs.Tests.{clash, told}
use Rattle.laws.proofs.Order.{lt_le_lt}
use Rattle.laws.proofs.Places.{place_passed}
use Rattle.rounding_laws.proofs.Fuse.{rescale, add_value, wide_value}

-- ---- limits rise

limit_is : (n : ℕ) → n ≤ 2 ^ 53 → limit n ≡ round binary64 false (n * 2 + 1) 2
unfolding limit sum
limit_is n h =
    add_value binary64 false false (n * 2) 1 2 (lit≤ tt) (wide n) (fin false 1 (negsuc 0)) (rescale (wide n) false (n * 2 ^ 0) (2 ^ 0) (n * 2) 2 (lit≤ tt) (omega arith) (wide_value n h)) (refl, refl)

limit_mono : (m n : ℕ) → m ≤ n → n ≤ 2 ^ 53 → le (limit m) (limit n) ≡ true
limit_mono m n h l =
    rw (limit_is m (omega arith), limit_is n l) (told _ (round_mono binary64 (m * 2 + 1) 2 (n * 2 + 1) 2 (omega arith) (omega arith) (omega arith)))

-- ---- a place lies at or before its limit, and the limit at or before the next place

pub place_limit : (n : ℕ) → n ≤ 2 ^ 53 → le (wide n) (limit n) ≡ true
unfolding wide of_int
place_limit n h = rw (limit_is n h) (told _ (round_mono binary64 n 1 (n * 2 + 1) 2 (omega arith) (omega arith) (omega arith)))

pub limit_place : (n : ℕ) → n ≤ 2 ^ 53 → le (limit n) (wide (suc n)) ≡ true
unfolding wide of_int
limit_place n h = rw (limit_is n h) (told _ (round_mono binary64 (n * 2 + 1) 2 (suc n) 1 (omega arith) (omega arith) (omega arith)))

-- ---- none up to n

passed_at : (q : Float) (n : ℕ) → n ≤ 2 ^ 53 → lt q (limit n) ≡ false → (m : ℕ) → m ≤ n → lt q (limit m) ≡ false
passed_at q n l f m h = go (lt q (limit m)) refl
  where
    go : (b : Bool) → lt q (limit m) ≡ b → b ≡ false
    go true e = clash (lt_le_lt q (limit m) (limit n) e (limit_mono m n h l)) f
    go false e = refl

pub none_passed : (q : Float) (count : ℕ) → (0 ≤ count) × (place_from q count 0 ≡ place_from q (count - 0) 0)
none_passed q count = let e : count - 0 ≡ count = omega arith in (omega arith, rw e)

pub places_passed : (q : Float) (count n : ℕ) → n < count → count ≤ 2 ^ 53 → lt q (limit n) ≡ false → (m : ℕ) → m ≤ suc n → place_from q count 0 ≡ place_from q (count - m) m
places_passed q count n h l f zero k = (none_passed q count).1
places_passed q count n h l f (suc m) k =
    places_passed q count n h l f m (omega arith) ∙ place_passed q count m (omega arith) (passed_at q n (omega arith) f m (omega arith))
