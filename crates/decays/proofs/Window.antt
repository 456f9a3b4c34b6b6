-- r over 2 ^ (32 + w), rounded to an f32, by an estimate e of r: where no midpoint of two f32 is near. Assumes nothing.
use mathlib.Core.Path.{◌≡◌, refl, sym, ap, ◌∙◌, subst}
use mathlib.Core.Logic.{inr, ⊎_elim}
use mathlib.Core.Bool.{Bool, false, not}
use Prim.Native.Nat.{ℕ, zero, suc, ◌+◌, ◌-◌, ◌*◌, ◌/◌, ◌%◌, ◌^◌, ◌≤◌, ◌<◌}
use native.Mathlib.Nat.{add_assoc, mul_assoc, mul-one, zero-add, mul-div_cancel, mul-mod_left, mod-eq_of_lt}
use native.Mathlib.Omega.{arith}
use lib.Dec.{T, lit<, lit≤}
use lib.Pow.{pow-add, pow_pos}
use lib.Ieee.{binary32, binary64, round, of_bits, to_bits, nan_bits}
use lib.Ieee.Bits.{to_bits-of_bits, nan_bits_is}
use lib.Ieee.Scale.{round_same}
use lib.Ieee.Nearest.{closest}
use Rattle.rules.specs.Numbers.{narrowed}
use Rattle.rules.specs.Kernels.{parts, falling}
use Rattle.rules.specs.Samples.{decay_of}
use Rattle.rounding_laws.proofs.Closest.{near_lt}
use Rattle.rounding_laws.proofs.At.{pack_at, no_nan}
use Rattle.rounding_laws.specs.Cut.{even_cut}
use Rattle.rounding_laws.proofs.Cut.{plain_law, even_sum_law, even_nan, nan_below}
use Rattle.rounding_laws.proofs.Powers.{or_less}
use Rattle.decays.specs.Told.{Told, Steps, Shows, shown, steps_in}
use Rattle.decays.proofs.Range.{falling_low, falling_high, falling-set, falling_zero}

-- a multiple rounds to itself
closest_exact : (n m : ℕ) → 0 < m → closest (n * m) m ≡ n
closest_exact n m h = rw (mul-div_cancel n h, mul-mod_left n m) (near_lt n 0 m h)

-- a number cut at its 29 last digits
last : (n d t : ℕ) → n ≡ d * 2 ^ 29 + t → t < 2 ^ 29 → (n - n % 2 ^ 29 ≡ d * 2 ^ 29) × (n % 2 ^ 29 ≡ t)
last n d t e h = (omega arith, omega arith)

-- the pattern of r / 2 ^ (32 + w) as an f64, which holds it exactly
module _ (r w : ℕ) (low : 2 ^ 31 ≤ r) (high : r < 2 ^ 32) (few : w ≤ 124) where
  abbrev bits : ℕ
  bits = (1021 - w) * 2 ^ 52 + r * 2 ^ 21

  exact : of_bits binary64 bits ≡ round binary64 false r (2 ^ (32 + w))
  exact =
      ap (of_bits binary64) (sym (zero-add bits))
      ∙ pack_at binary64 false (r * 2 ^ 32) 0 (64 + w) (1021 - w) 11 (r * 2 ^ 21) (omega arith) (omega arith) (omega arith) (omega arith) (inr (omega arith, refl))
      (sym (ap (λ (x : ℕ). closest x (2 ^ 11)) (sym (mul_assoc r (2 ^ 21) (2 ^ 11))) ∙ closest_exact (r * 2 ^ 21) (2 ^ 11) (lit< tt)))
      ∙ round_same binary64 false (r * 2 ^ 32 * 2 ^ 0) (2 ^ (64 + w)) r (2 ^ (32 + w)) (pow_pos (64 + w)) (pow_pos (32 + w))
      (ap (λ (x : ℕ). x * 2 ^ (32 + w)) (mul-one (r * 2 ^ 32)) ∙ mul_assoc r (2 ^ 32) (2 ^ (32 + w)) ∙ ap (λ (x : ℕ). r * x) (sym (pow-add 2 32 (32 + w)) ∙ ap (λ (x : ℕ). 2 ^ x) (sym (add_assoc 32 32 w))))

  reads : to_bits binary64 (round binary64 false r (2 ^ (32 + w))) ≡ bits
  reads =
      ap (to_bits binary64) (sym exact)
      ∙ to_bits-of_bits binary64 bits (omega arith) (subst (λ (b : Bool). T (not b)) (nan_bits_is binary64 bits) (subst (λ (n : ℕ). T (not (nan_bits binary64 n))) (zero-add bits) (no_nan binary64 false bits (omega arith))))

  ranges : (898 * 2 ^ 52 ≤ bits % 2 ^ 63) × (bits % 2 ^ 63 < 1149 * 2 ^ 52)
  ranges = rw (mod-eq_of_lt {n = bits} {m = 2 ^ 63} (omega arith)) (omega arith, omega arith)

  -- q is where the window of r lies
  rounds : (q : ℕ) → q * 256 < r + 128 → r + 128 < q * 256 + 256 → of_bits binary64 ((1021 - w) * 2 ^ 52 + q * 2 ^ 29) ≡ round binary32 false r (2 ^ (32 + w))
  rounds q l h =
      let k = 1021 - w in
      let s = r + 128 - q * 256 in
      let c = last (bits + 2 ^ 28) (k * 2 ^ 23 + q) (s * 2 ^ 21) (omega arith) (omega arith) in
      let e : k * 2 ^ 52 + q * 2 ^ 29 ≡ (k * 2 ^ 23 + q) * 2 ^ 29 = omega arith in
      ap (of_bits binary64) (e ∙ sym c.0) ∙ plain_law false r (2 ^ (32 + w)) bits (pow_pos (32 + w)) (sym reads) ranges.0 ranges.1 (λ z. absurd (omega (arith, c.1)))

  abbrev even : ℕ
  even = even_cut bits

  -- and r itself, which may be a midpoint
  rounds_even : of_bits binary64 even ≡ round binary32 false r (2 ^ (32 + w))
  rounds_even =
      even_sum_law false r (2 ^ (32 + w)) bits (pow_pos (32 + w)) (sym reads) ranges.0 ranges.1
      (λ k l d. let i = fit k l in (
        r * 2 ^ (1042 - w - k),
        ap (λ (x : ℕ). r * 2 ^ x) i.0 ∙ ap (λ (x : ℕ). r * x) (pow-add 2 (1042 - w - k) (32 + w + k)) ∙ sym (mul_assoc r (2 ^ (1042 - w - k)) (2 ^ (32 + w + k)))
            ∙ ap (λ (x : ℕ). r * 2 ^ (1042 - w - k) * x) (pow-add 2 (32 + w) k),
      ))
    where
      fit : (k : ℕ) → suc k ≤ bits % 2 ^ 63 / 2 ^ 52 → (1074 ≡ 1042 - w - k + (32 + w + k)) × (k ≤ 1021 - w)
      fit k l = let f : bits % 2 ^ 63 / 2 ^ 52 ≡ 1022 - w = omega arith in (omega arith, omega arith)

  even_nan_at : T (not (nan_bits binary64 even))
  even_nan_at = even_nan bits (omega arith) ranges.0 ranges.1

  even_at : ((1022 - w) * 2 ^ 52 ≤ even) × (even ≤ 1023 * 2 ^ 52)
  even_at = go (1021 - w) (1022 - w) (bits / 2 ^ 29 % 2) (omega arith) (omega arith) (omega arith)
    where
      go : (k j p : ℕ) → k ≤ 1021 → j ≡ k + 1 → p < 2 → (j * 2 ^ 52 ≤ k * 2 ^ 52 + r * 2 ^ 21 + 268435455 + p - (k * 2 ^ 52 + r * 2 ^ 21 + 268435455 + p) % 2 ^ 29) × (k * 2 ^ 52 + r * 2 ^ 21 + 268435455 + p - (k * 2 ^ 52 + r * 2 ^ 21 + 268435455 + p) % 2 ^ 29 ≤ 1023 * 2 ^ 52)
      go k j p h i g = (omega arith, omega arith)

-- from an estimate e: r or up to 20 more
rounds_near : (r e w : ℕ) → r ≤ e → e ≤ r + 20 → (e + 107) % 256 ≤ 234 → 2147483668 ≤ e → e < 4294967296 → w ≤ 124
    → of_bits binary64 ((1021 - w) * 2 ^ 52 + (e + 107) / 256 * 2 ^ 29) ≡ round binary32 false r (2 ^ (32 + w))
rounds_near r e w a b c d f g = rounds r w (omega arith) (omega arith) g ((e + 107) / 256) (omega arith) (omega arith)

near_nan : (e w : ℕ) → e < 4294967296 → w ≤ 124 → T (not (nan_bits binary64 ((1021 - w) * 2 ^ 52 + (e + 107) / 256 * 2 ^ 29)))
near_nan e w h g =
    let n = (1021 - w) * 2 ^ 52 + (e + 107) / 256 * 2 ^ 29 in
    subst (λ (n : ℕ). T (not (nan_bits binary64 n))) (zero-add n) (no_nan binary64 false n (omega arith))

-- the factor after p steps
steps_near : (p e : ℕ) → falling (p % parts) ≤ e → e ≤ falling (p % parts) + 20 → (e + 107) % 256 ≤ 234 → 2147483668 ≤ e → e < 4294967296 → p / parts ≤ 124
    → Told (p / parts) ((1021 - p / parts) * 2 ^ 52 + (e + 107) / 256 * 2 ^ 29) (narrowed (decay_of p))
unfolding decay_of narrowed
steps_near p e a b c d f g =
    let i : suc (31 + p / parts) ≡ 32 + p / parts = omega arith in
    record {
      holds = (rw (mul-one (falling (p % parts)), i) (rounds_near (falling (p % parts)) e (p / parts) a b c d f g), near_nan e (p / parts) f g);
      low = omega arith;
      high = omega arith;
    }

-- and by its falling power
steps_even : (p d : ℕ) → d ≡ falling (p % parts) → 2147483648 ≤ d → d < 4294967296 → p / parts ≤ 124 → Told (p / parts) (even_cut ((1021 - p / parts) * 2 ^ 52 + d * 2 ^ 21)) (narrowed (decay_of p))
unfolding decay_of narrowed
steps_even p d i l h g =
    let o : suc (31 + p / parts) ≡ 32 + p / parts = omega arith in
    record {
      holds = (rw (mul-one (falling (p % parts)), o, ← i) (rounds_even d (p / parts) l h g), even_nan_at d (p / parts) l h g);
      low = (even_at d (p / parts) l h g).0;
      high = (even_at d (p / parts) l h g).1;
    }

-- ---- by what b shows

-- 2 ^ 32 over 2 ^ (32 + w) is the f32 2 ^ -w
rounds_whole : (w : ℕ) → w ≤ 124 → of_bits binary64 ((1023 - w) * 2 ^ 52) ≡ round binary32 false (2 ^ 32) (2 ^ (32 + w))
rounds_whole zero h = unfold of_bits round in refl
rounds_whole (suc v) h =
    let e : (1023 - suc v) * 2 ^ 52 ≡ (1021 - v) * 2 ^ 52 + 2 ^ 23 * 2 ^ 29 = omega arith in
    let i : 31 + (32 + suc v) ≡ 32 + (32 + v) = omega arith in
    ap (of_bits binary64) e ∙ rounds (2 ^ 31) v (lit≤ tt) (lit< tt) (omega arith) (2 ^ 23) (lit< tt) (lit< tt)
    ∙ round_same binary32 false (2 ^ 31) (2 ^ (32 + v)) (2 ^ 32) (2 ^ (32 + suc v)) (pow_pos (32 + v)) (pow_pos (32 + suc v))
    (sym (pow-add 2 31 (32 + suc v)) ∙ ap (λ (x : ℕ). 2 ^ x) i ∙ pow-add 2 32 (32 + v))

steps_whole : (p : ℕ) → falling (p % parts) ≡ 2 ^ 32 → p / parts ≤ 124 → Told (p / parts) ((1023 - p / parts) * 2 ^ 52) (narrowed (decay_of p))
unfolding decay_of narrowed
steps_whole p i g =
    let o : suc (31 + p / parts) ≡ 32 + p / parts = omega arith in
    let n = (1023 - p / parts) * 2 ^ 52 in
    record {
      holds = (rw (mul-one (falling (p % parts)), o, i) (rounds_whole (p / parts) g), nan_below n (omega arith));
      low = omega arith;
      high = omega arith;
    }

-- the code sums before d is shifted: the cut is the same
cut_at : (k d : ℕ) → even_cut (k * 2 ^ 52 + d * 2 ^ 21) ≡ k * 2 ^ 52 + (d + 127 + d / 256 % 2) / 256 * 2 ^ 29
cut_at k d =
    let p : (k * 2 ^ 52 + d * 2 ^ 21) / 2 ^ 29 % 2 ≡ d / 256 % 2 = omega arith in
    rw p (go (d / 256 % 2) (omega arith))
  where
    go : (p : ℕ) → p < 2
        → k * 2 ^ 52 + d * 2 ^ 21 + 268435455 + p - (k * 2 ^ 52 + d * 2 ^ 21 + 268435455 + p) % 2 ^ 29 ≡ k * 2 ^ 52 + (d + 127 + p) / 256 * 2 ^ 29
    go p h = omega arith

module _ (b : ℕ) (s : Steps b) where
  abbrev p : ℕ
  p = steps_in b

  few : p / parts ≤ 124
  few = omega (arith, s.lo, s.hi)

  pub last_steps : b / 2 ^ 18 % 2 ^ 24 ≡ p % parts
  last_steps = omega (arith, s.lo, s.hi)

  shown_at : (u : ℕ) → (1021 - p / parts) * 2 ^ 52 + u / 256 * 2 ^ 29 ≡ shown b u
  shown_at u =
      let e : 1021 - p / parts ≡ 1083901 - b / 2 ^ 42 = omega (arith, s.lo, s.hi) in
      ap (λ (k : ℕ). k * 2 ^ 52 + u / 256 * 2 ^ 29) e

  shows : (n u : ℕ) → n ≡ (1021 - p / parts) * 2 ^ 52 + u / 256 * 2 ^ 29 → Told (p / parts) n (narrowed (decay_of p)) → Shows b u
  shows n u e t = subst (λ (m : ℕ). Told (p / parts) m (narrowed (decay_of p))) (e ∙ shown_at u) t

  shows_whole : (u : ℕ) → u / 256 ≡ 2 ^ 24 → falling (p % parts) ≡ 2 ^ 32 → Shows b u
  shows_whole u e i = shows ((1023 - p / parts) * 2 ^ 52) u (let f = few in omega arith) (steps_whole p i few)

  -- an estimate of 2 ^ 32 is of 2 ^ 32: no other falling power is near
  none_near : 4294967276 ≤ falling (p % parts) → falling (p % parts) ≡ 2 ^ 32
  none_near h = go (p % parts) (omega arith) h
    where
      go : (a : ℕ) → a < parts → 4294967276 ≤ falling a → falling a ≡ 2 ^ 32
      go zero l g = falling_zero
      go (suc a) l g = absurd (omega (arith, falling-set (suc a) l (λ z. omega arith)))

  pub shows_near : (e : ℕ) → falling (p % parts) ≤ e → e ≤ falling (p % parts) + 20 → e ≤ 2 ^ 32 → (e + 107) % 256 ≤ 234 → Shows b (e + 107)
  shows_near e l h m c = ⊎_elim whole below (or_less (2 ^ 32) e)
    where
      whole : 2 ^ 32 ≤ e → Shows b (e + 107)
      whole k = shows_whole (e + 107) (omega arith) (none_near (omega arith))

      below : e < 2 ^ 32 → Shows b (e + 107)
      below k = shows _ (e + 107) refl (steps_near p e l h c (omega (arith, falling_low (p % parts))) k few)

  pub shows_even : (d : ℕ) → d ≡ falling (p % parts) → Shows b (d + 127 + d / 256 % 2)
  shows_even d i = ⊎_elim whole below (or_less (2 ^ 32) d)
    where
      f : falling (p % parts) ≤ 2 ^ 32
      f = falling_high (p % parts)

      whole : 2 ^ 32 ≤ d → Shows b (d + 127 + d / 256 % 2)
      whole k = let e : d ≡ 2 ^ 32 = omega (arith, f) in shows_whole (d + 127 + d / 256 % 2) (rw e) (sym i ∙ e)

      below : d < 2 ^ 32 → Shows b (d + 127 + d / 256 % 2)
      below k = shows _ (d + 127 + d / 256 % 2) (cut_at (1021 - p / parts) d) (steps_even p d i (omega (arith, falling_low (p % parts))) k few)
