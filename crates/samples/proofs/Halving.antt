-- What a test leaves of the candidates, and how many tests there can be. Assumes nothing.
use Rattle.std.proofs.Common.{◌≡◌, ℕ, zero, suc, ◌+◌, ◌*◌, ◌/◌, ◌^◌, ◌<◌, ◌≤◌, Bool, true, false, leb, sym, refl, ◌∙◌, subst, pow-suc, arith, pow_mono, leb-false, leb-true}
use lib.Ieee.{Float, lt, size}
use lib.Ieee.Digits.{size-lt, size_reaches, size-le}
use Rattle.rules.specs.Numbers.{limit, place_from}
use Rattle.laws.proofs.Places.{place_found, place_none}
use Rattle.samples.specs.Search.{Among}
use Rattle.samples.proofs.Places.{places_passed}

-- ---- the candidates

module _ (q : Float) (count : ℕ) (few : count ≤ 2 ^ 53) (low high : ℕ) (a : Among q count low high) where
  -- one is left
  pub found : high ≤ low → low ≡ place_from q count 0
  found h = go (leb count low) refl
    where
      go : (b : Bool) → leb count low ≡ b → low ≡ place_from q count 0
      go true e = sym (a.passed ∙ place_none q count low (leb-true count low e))
      go false e =
          let l : low < count = leb-false count low e in
          let s : high ≡ low = omega (arith, a.upward) in
          sym (a.passed ∙ place_found q count low l (subst (λ (n : ℕ). lt q (limit n) ≡ true) s (a.reached (omega arith))))

  module _ (middle : ℕ) (h : low ≤ middle) (k : middle < high) where
    pub lower : lt q (limit middle) ≡ true → Among q count low middle
    lower t = record { upward = h; within = omega (arith, a.within); passed = a.passed; reached = λ l. t }

    pub upper : lt q (limit middle) ≡ false → Among q count (middle + 1) high
    upper t =
        record {
          upward = omega arith;
          within = a.within;
          passed = places_passed q count middle (omega (arith, a.within)) few t (middle + 1) (omega arith);
          reached = a.reached;
        }

-- ---- the tests: where d places are left beside one, as many are to come as d has binary digits

-- half of them has a digit less
pub fewer : (d rest : ℕ) → 0 < d → rest ≤ d / 2 → size rest < size d
fewer d rest some h = go (size d) (size-lt d)
  where
    go : (k : ℕ) → d < 2 ^ k → size rest < k
    go zero l = absurd (omega arith)
    go (suc j) l = let e : size rest ≤ j = size-le rest j (omega (arith, pow-suc 2 j)) in omega arith

-- a test more, and those to come
pub next : (most tests d rest : ℕ) → tests + size d ≤ most → 0 < d → rest ≤ d / 2 → tests + 1 + size rest ≤ most
next most tests d rest h some l = omega (arith, fewer d rest some l)

-- so many digits are 1 + log2
digits : (count : ℕ) → 0 < count → 2 ^ size count ≤ 2 * count
digits count some = go (size count) (size-lt count) (size_reaches count)
  where
    go : (k : ℕ) → count < 2 ^ k → ((j : ℕ) → j < k → 2 ^ j ≤ count) → 2 ^ k ≤ 2 * count
    go zero l r = absurd (omega arith)
    go (suc j) l r = omega (arith, pow-suc 2 j, r j (omega arith))

pub few : (count d tests : ℕ) → d ≤ count → tests ≤ 1 + size d → 0 < count → 2 ^ tests ≤ 4 * count
few count d tests h k some =
    let l : size d ≤ size count = size-le d (size count) (omega (arith, size-lt count)) in
    let t : 2 ^ tests ≤ 2 ^ suc (size count) = pow_mono (omega arith) in
    omega (arith, pow-suc 2 (size count), digits count some)
