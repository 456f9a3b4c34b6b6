-- Log, as document 01 states it: 2^(a+31N) ≤ m^N < 2^(a+2+31N), N = 2^24. By induction on the digits: no such power is computed. Assumes nothing.
use mathlib.Core.Path.{◌≡◌, refl, sym, ap, ◌∙◌}
use mathlib.Core.Bool.{Bool, true, false, cond}
use Prim.Native.Nat.{ℕ, zero, suc, ◌+◌, ◌-◌, ◌*◌, ◌/◌, ◌^◌, ◌≤◌, ◌<◌}
use native.Mathlib.Omega.{arith}
use native.Mathlib.Nat.{pow-suc, pow-zero, mul_assoc, mul_comm, mul_left_comm, mul_right_comm, mul-add, add-mul, mul-le-mul, mul-le-mul_left, mul-le-mul_right, mul-lt-mul_of_pos_right, pow-le-pow_left, pow-lt-pow_left, one-le-pow, two-pow-succ, div-mul-le_self, lt-div-mul-add, le_trans, le_of_eq}
use lib.Pow.{pow_pos, pow-add, pow_mono}
use lib.Dec.{leb}
use borrow.Author.Tests.{leb-true, leb-false}
use Rattle.rules.specs.Kernels.{parts, log_from, log}
use Rattle.kernels.proofs.Powers.{mul_pow, pow_pow}

-- 2^31
abbrev pub K : ℕ
K = 2147483648

-- ---- one digit: s is the square over 2^31, d the digit, and m' what goes on

pub record Digit (m d m' : ℕ) : Type 0 where
  pub low : K ≤ m'
  pub high : m' < 2 * K
  below : 2 ^ d * m' * K ≤ m * m
  above : m * m ≤ 2 ^ d * m' * (K + 1)

module _ (m : ℕ) (l : K ≤ m) (h : m < 2 * K) where
  abbrev s : ℕ
  s = m * m / K

  s_low : s * K ≤ m * m
  s_low = div-mul-le_self (m * m) K

  s_high : m * m < s * K + K
  s_high = lt-div-mul-add (omega arith)

  s_from : K ≤ s
  s_from = let a : K * K ≤ m * m = mul-le-mul l l in omega (arith, s_high)

  s_to : s < 4 * K
  s_to = let k : m ≤ 2 * K - 1 = omega arith in let a : m * m ≤ (2 * K - 1) * (2 * K - 1) = mul-le-mul k k in omega (arith, s_low)

  pub digit_one : 2 * K ≤ s → Digit m 1 (s / 2)
  digit_one b =
      record {
        low = omega arith;
        high = omega (arith, s_to);
        below = omega (arith, s_low);
        above = omega (arith, s_high);
      }

  pub digit_none : s < 2 * K → Digit m 0 s
  digit_none b = record { low = s_from; high = b; below = omega (arith, s_low); above = omega (arith, s_high, s_from) }

-- ---- all digits

-- what the digits behind a, read from m, say: n is 2 ^ k
record Reads (k m a r : ℕ) : Type 0 where
  under : 2 ^ r * K ^ 2 ^ k ≤ 2 ^ (a * 2 ^ k) * m ^ 2 ^ k
  over : 2 ^ (a * 2 ^ k) * m ^ 2 ^ k < 2 ^ (r + 1) * (K + 1) ^ 2 ^ k

module _ (n m d m' a r : ℕ) (g : Digit m d m') where
  -- 2 ^ ((2 a + d) n) * m' ^ n * X ^ n, with the digit beside m'
  gathered : (X : ℕ) → 2 ^ ((2 * a + d) * n) * m' ^ n * X ^ n ≡ 2 ^ (a * (n + n)) * (2 ^ d * m' * X) ^ n
  gathered X =
      let e : (2 * a + d) * n ≡ a * (n + n) + d * n = omega (arith, add-mul (2 * a) d n, mul_assoc 2 a n, mul-add a n n) in
      rw (e, pow-add 2 (a * (n + n)) (d * n), mul_pow (2 ^ d * m') X n, mul_pow (2 ^ d) m' n, ← pow_pow 2 d n) (simp (mul_assoc, mul_comm, mul_left_comm))

  squared : m ^ (n + n) ≡ (m * m) ^ n
  squared = pow-add m n n ∙ sym (mul_pow m m n)

  more_under : 2 ^ r * K ^ n ≤ 2 ^ ((2 * a + d) * n) * m' ^ n → 2 ^ r * K ^ (n + n) ≤ 2 ^ (a * (n + n)) * m ^ (n + n)
  more_under u =
      let p : 2 ^ r * K ^ n * K ^ n ≤ 2 ^ ((2 * a + d) * n) * m' ^ n * K ^ n = mul-le-mul_right (K ^ n) u in
      let q : 2 ^ (a * (n + n)) * (2 ^ d * m' * K) ^ n ≤ 2 ^ (a * (n + n)) * (m * m) ^ n = mul-le-mul_left (2 ^ (a * (n + n))) (pow-le-pow_left g.below n) in
      rw (pow-add K n n, ← mul_assoc (2 ^ r) (K ^ n) (K ^ n), squared) (le_trans p (le_trans (le_of_eq (gathered K)) q))

  more_over : 2 ^ ((2 * a + d) * n) * m' ^ n < 2 ^ (r + 1) * (K + 1) ^ n → 2 ^ (a * (n + n)) * m ^ (n + n) < 2 ^ (r + 1) * (K + 1) ^ (n + n)
  more_over o =
      let z : 0 < (K + 1) ^ n = one-le-pow n (K + 1) (omega arith) in
      let p : 2 ^ ((2 * a + d) * n) * m' ^ n * (K + 1) ^ n < 2 ^ (r + 1) * (K + 1) ^ n * (K + 1) ^ n = mul-lt-mul_of_pos_right o z in
      let q : 2 ^ (a * (n + n)) * (m * m) ^ n ≤ 2 ^ (a * (n + n)) * (2 ^ d * m' * (K + 1)) ^ n = mul-le-mul_left (2 ^ (a * (n + n))) (pow-le-pow_left g.above n) in
      let e : 2 ^ ((2 * a + d) * n) * m' ^ n * (K + 1) ^ n ≡ 2 ^ (a * (n + n)) * (2 ^ d * m' * (K + 1)) ^ n = gathered (K + 1) in
      rw (pow-add (K + 1) n n, ← mul_assoc (2 ^ (r + 1)) ((K + 1) ^ n) ((K + 1) ^ n), squared) (omega arith)

more : (k m d m' a r : ℕ) → Digit m d m' → Reads k m' (2 * a + d) r → Reads (suc k) m a r
more k m d m' a r g h =
    record {
      under = rw (two-pow-succ k) (more_under (2 ^ k) m d m' a r g h.under);
      over = rw (two-pow-succ k) (more_over (2 ^ k) m d m' a r g h.over);
    }

reads : (k m a : ℕ) → K ≤ m → m < 2 * K → Reads k m a (log_from k m a)
unfolding log_from
reads zero m a l h =
    let e : a * 1 ≡ a = omega arith in
    let p : 2 ^ (a + 1) ≡ 2 ^ a * 2 = pow-add 2 a 1 in
    let z : 0 < 2 ^ a = pow_pos a in
    let u : 2 ^ a * K ≤ 2 ^ a * m = mul-le-mul_left (2 ^ a) l in
    let q : m ^ 1 ≡ m = pow-suc m 0 ∙ ap (λ (x : ℕ). x * m) (pow-zero m) ∙ omega arith in
    let o : 2 ^ a * m ≤ 2 ^ a * (2 * K) = mul-le-mul_left (2 ^ a) (omega arith) in
    record { under = rw (e, q) u; over = rw (e, q, p) (omega arith) }
reads (suc k) m a l h = go (leb (2 ^ 32) (m * m / K)) refl (reads k)
  where
    go : (b : Bool) → leb (2 ^ 32) (m * m / K) ≡ b → ((m a : ℕ) → K ≤ m → m < 2 * K → Reads k m a (log_from k m a))
        → Reads (suc k) m a (log_from k (cond b (m * m / K / 2) (m * m / K)) (2 * a + cond b 1 0))
    go true e rest =
        let g : Digit m 1 (m * m / K / 2) = digit_one m l h (leb-true (2 ^ 32) (m * m / K) e) in
        more k m 1 (m * m / K / 2) a _ g (rest (m * m / K / 2) (2 * a + 1) g.low g.high)
    go false e rest =
        let g : Digit m 0 (m * m / K) = digit_none m l h (leb-false (2 ^ 32) (m * m / K) e) in
        more k m 0 (m * m / K) a _ g (rest (m * m / K) (2 * a + 0) g.low g.high)

-- ---- the document's words

-- (K + 1)^n is little more than K^n
near : (n : ℕ) → 2 * n ≤ K → (K + 1) ^ n * K ≤ K ^ n * (K + 2 * n)
near zero h = omega arith
near (suc n) h =
    let i : (K + 1) ^ n * K ≤ K ^ n * (K + 2 * n) = near n (omega arith) in
    let x : ℕ = (K + 1) ^ n in
    let y : ℕ = K ^ n in
    let p : y * (2 * n) ≤ y * K = mul-le-mul_left y (omega arith) in
    let w : K + 2 * suc n ≡ K + 2 * n + 2 = omega arith in
    rw
    (pow-suc (K + 1) n, pow-suc K n, w, mul_right_comm y K (K + 2 * n + 2), mul-add y (K + 2 * n) 2, mul-add y K (2 * n))
    (omega (arith, mul-add y K (2 * n)))

twice : (n : ℕ) → 2 * n ≤ K → (K + 1) ^ n ≤ 2 * K ^ n
twice n h =
    let p : K ^ n * (K + 2 * n) ≤ K ^ n * (2 * K) = mul-le-mul_left (K ^ n) (omega arith) in
    omega (arith, near n h)

-- for any number of digits: k stays a name, so that nothing computes 2 ^ k
module _ (k N m : ℕ) (is : N ≡ 2 ^ k) (few : 2 * N ≤ K) (l : K ≤ m) (h : m < 2 * K) where
  abbrev r : ℕ
  r = log_from k m 0

  none : 2 ^ (0 * N) * m ^ N ≡ m ^ N
  none = let e : 0 * N ≡ 0 = omega arith in rw e (omega arith)

  log_under : 2 ^ (r + 31 * N) ≤ m ^ N
  log_under =
      let u : 2 ^ r * K ^ N ≤ 2 ^ (0 * N) * m ^ N = rw (← is) at (reads k m 0 l h).under in
      rw (pow-add 2 r (31 * N), pow_pow 2 31 N) (le_trans u (le_of_eq none))

  log-over : m ^ N < 2 ^ (r + 2 + 31 * N)
  log-over =
      let o : 2 ^ (0 * N) * m ^ N < 2 ^ (r + 1) * (K + 1) ^ N = rw (← is) at (reads k m 0 l h).over in
      let t : 2 ^ (r + 1) * (K + 1) ^ N ≤ 2 ^ (r + 1) * (2 * K ^ N) = mul-le-mul_left (2 ^ (r + 1)) (twice N few) in
      let e : r + 2 + 31 * N ≡ r + 1 + (1 + 31 * N) = omega arith in
      rw (e, pow-add 2 (r + 1) (1 + 31 * N), pow-add 2 1 (31 * N), pow_pow 2 31 N) (omega (arith, none))

module _ (N m : ℕ) (is : N ≡ 2 ^ 24) (l : 2 ^ 31 ≤ m) (h : m < 2 ^ 32) where
  pub log-between : (2 ^ (log m + 31 * N) ≤ m ^ N) × (m ^ N < 2 ^ (log m + 2 + 31 * N))
  unfolding log
  log-between = (log_under 24 N m is (omega arith) l h, log-over 24 N m is (omega arith) l h)

  -- so a is below N
  few_digits : log m < N
  few_digits = go (leb N (log m)) refl
    where
      go : (b : Bool) → leb N (log m) ≡ b → log m < N
      go true e =
          let p : 2 ^ (32 * N) ≤ 2 ^ (log m + 31 * N) = pow_mono {i = 32 * N} {j = log m + 31 * N} (omega (arith, leb-true N (log m) e)) in
          let q : m ^ N < (2 ^ 32) ^ N = pow-lt-pow_left h (omega arith) in
          absurd (omega (arith, log-between.0, pow_pow 2 32 N))
      go false e = leb-false N (log m) e

pub log_below : (m : ℕ) → 2 ^ 31 ≤ m → m < 2 ^ 32 → log m < parts
log_below m l h = few_digits parts m refl l h
