-- Falling power, as document 01 states it: r^N × 2^a ≤ 2^(32N) < (r+96)^N × 2^a, N = 2^24. By induction on the table: no such power is computed. Assumes nothing.
use mathlib.Core.Path.{◌≡◌, refl, sym, ap, ◌∙◌}
use mathlib.Core.Logic.{◌≢◌}
use mathlib.Core.Bool.{Bool, true, false, cond, ◌&&◌}
use mathlib.Core.List.{List, [], ◌∷◌}
use Prim.Native.Nat.{ℕ, suc, ◌+◌, ◌*◌, ◌/◌, ◌%◌, ◌^◌, ◌≤◌, ◌<◌}
use native.Mathlib.Omega.{arith}
use native.Mathlib.Nat.{mul_assoc, mul_comm, mul_left_comm, mul_right_comm, mul-add, add-mul, mul-le-mul_left, mul-le-mul_right, le_of_mul-le-mul_right, mul-lt-mul_of_pos_right, lt_of_mul-lt-mul_right, pow-le-pow_left, pow-lt-pow_left, one-le-pow, two-pow-succ, div-mul-le_self, lt-div-mul-add, le_trans, le_of_eq, mod-eq_of_lt, zero-div}
use lib.Pow.{pow_pos, pow-add, pow_mono, mod-pow-add}
use lib.Dec.{leb, eqb}
use lib.ListN.{length}
use borrow.Author.Tests.{leb-true, leb-false, eqb-true, eqb-false}
use Rattle.rules.specs.Kernels.{parts, root_from, root, table_from, table, falling_from, falling}
use Rattle.kernels.proofs.Powers.{both, mul_pow, pow_pow}

root_le : (x y : ℕ) → x * x ≤ y * y → x ≤ y
root_le x y h = go (leb x y) refl
  where
    go : (b : Bool) → leb x y ≡ b → x ≤ y
    go true e = leb-true x y e
    go false e =
        let l : y < x = leb-false x y e in
        let p : 0 < x = omega arith in
        let s : y * x < x * x = mul-lt-mul_of_pos_right l p in
        let k : y ≤ x = omega arith in
        let t : y * y ≤ y * x = mul-le-mul_left y k in
        absurd (omega arith)

-- 2^32
abbrev B : ℕ
B = 4294967296

module _ (N : ℕ) where
  Under : ℕ → ℕ → Type 0
  Under c W = c ^ N * 2 ^ W ≤ B ^ N

  Over : ℕ → ℕ → Type 0
  Over c W = B ^ N ≤ c ^ N * 2 ^ W

  square : (c W : ℕ) → (c ^ N * 2 ^ W) * (c ^ N * 2 ^ W) ≡ (c * c) ^ N * 2 ^ (W + W)
  square c W = rw (mul_pow c c N, pow-add 2 W W) (simp (mul_assoc, mul_comm, mul_left_comm))

  apart : (c W : ℕ) → (c * B) ^ N * 2 ^ W ≡ c ^ N * 2 ^ W * B ^ N
  apart c W = rw (mul_pow c B N) (mul_right_comm (c ^ N) (B ^ N) (2 ^ W))

  under_step : (c d W : ℕ) → d * d ≤ c * B → Under c (W + W) → Under d W
  unfolding Under
  under_step c d W h u =
      let l : (d * d) ^ N * 2 ^ (W + W) ≤ (c * B) ^ N * 2 ^ (W + W) = mul-le-mul_right (2 ^ (W + W)) (pow-le-pow_left h N) in
      let m : c ^ N * 2 ^ (W + W) * B ^ N ≤ B ^ N * B ^ N = mul-le-mul_right (B ^ N) u in
      root_le _ _ (rw (square d W) (le_trans l (le_trans (le_of_eq (apart c (W + W))) m)))

  over_step : (c d W : ℕ) → c * B ≤ d * d → Over c (W + W) → Over d W
  unfolding Over
  over_step c d W h o =
      let l : (c * B) ^ N * 2 ^ (W + W) ≤ (d * d) ^ N * 2 ^ (W + W) = mul-le-mul_right (2 ^ (W + W)) (pow-le-pow_left h N) in
      let m : B ^ N * B ^ N ≤ c ^ N * 2 ^ (W + W) * B ^ N = mul-le-mul_right (B ^ N) o in
      root_le _ _ (rw (square d W) (le_trans m (le_trans (le_of_eq (sym (apart c (W + W)))) l)))

-- ---- the table: each number's square lies by the one before it

chained : ℕ → ℕ → List ℕ → Bool
chained c e [] = true
chained c e (d ∷ ds) = leb (d * d) (c * B) && (leb (e * B) ((d + 3) * (d + 3)) && (leb (d + 3) B && chained d (d + 3) ds))

table_chained : chained (2 ^ 31) (2 ^ 31) table ≡ true
unfolding chained table table_from root root_from
table_chained = refl

module _ (N : ℕ) where
  -- what is known of each number, by how many stand behind it
  abbrev Rows : List ℕ → Type 0
  Rows [] = Unit {0}
  Rows (d ∷ ds) = Under N d (2 ^ length ds) × Over N (d + 3) (2 ^ length ds) × (d + 3 ≤ B) × Rows ds

  rows : (c e : ℕ) (ds : List ℕ) → chained c e ds ≡ true → Under N c (2 ^ length ds) → Over N e (2 ^ length ds) → Rows ds
  unfolding chained
  rows c e [] h u o = tt
  rows c e (d ∷ ds) h u o =
      let a = both (leb (d * d) (c * B)) _ h in
      let b = both (leb (e * B) ((d + 3) * (d + 3))) _ a.1 in
      let k = both (leb (d + 3) B) _ b.1 in
      let U : Under N d (2 ^ length ds) = under_step N c d (2 ^ length ds) (leb-true (d * d) (c * B) a.0) (rw (two-pow-succ (length ds)) at u) in
      let O : Over N (d + 3) (2 ^ length ds) = over_step N e (d + 3) (2 ^ length ds) (leb-true (e * B) ((d + 3) * (d + 3)) b.0) (rw (two-pow-succ (length ds)) at o) in
      (U, O, leb-true (d + 3) B k.0, rows d (d + 3) ds k.1 U O)

  -- 2^31, at the weight N
  first_row : (2 ^ 31) ^ N * 2 ^ N ≡ B ^ N
  first_row = sym (mul_pow (2 ^ 31) 2 N)

-- ---- one digit

squeeze_under : (X Y C D P : ℕ) → 0 < D → Y * D ≤ X * C → C * P ≤ D → Y * P ≤ X
squeeze_under X Y C D P p h u =
    let l : Y * D * P ≤ X * C * P = mul-le-mul_right P h in
    let m : X * (C * P) ≤ X * D = mul-le-mul_left X u in
    le_of_mul-le-mul_right (le_trans (le_of_eq (mul_right_comm Y P D)) (le_trans l (le_trans (le_of_eq (mul_assoc X C P)) m))) p

squeeze_over : (X Y C D P : ℕ) → 0 < D → X * C ≤ Y * D → D ≤ C * P → X ≤ Y * P
squeeze_over X Y C D P p h o =
    let l : X * D ≤ X * (C * P) = mul-le-mul_left X o in
    let m : X * C * P ≤ Y * D * P = mul-le-mul_right P h in
    le_of_mul-le-mul_right (le_trans l (le_trans (le_of_eq (sym (mul_assoc X C P))) (le_trans m (le_of_eq (mul_right_comm Y D P))))) p

squeeze_strict : (X Y C D P : ℕ) → 0 < D → 0 < P → X * C < Y * D → D ≤ C * P → X < Y * P
squeeze_strict X Y C D P p q h o =
    let l : X * D ≤ X * (C * P) = mul-le-mul_left X o in
    let m : X * C * P < Y * D * P = mul-lt-mul_of_pos_right h q in
    let n : X * (C * P) ≡ X * C * P = sym (mul_assoc X C P) in
    let k : Y * D * P ≡ Y * P * D = mul_right_comm Y D P in
    lt_of_mul-lt-mul_right D (omega arith)

power_pos : (N : ℕ) → 0 < B ^ N
power_pos N = one-le-pow N B (omega arith)

module _ (N r c W : ℕ) where
  abbrev r' : ℕ
  r' = r * c / B

  digit_under : Under N c W → r' ^ N * 2 ^ W ≤ r ^ N
  unfolding Under
  digit_under u =
      let h : (r' * B) ^ N ≤ (r * c) ^ N = pow-le-pow_left (div-mul-le_self (r * c) B) N in
      squeeze_under (r ^ N) (r' ^ N) (c ^ N) (B ^ N) (2 ^ W) (power_pos N) (rw (mul_pow r' B N, mul_pow r c N) at h) u

  module _ (e : ℕ) (small : r ≤ B) (below : c + 3 ≤ B) where
    digit : (r + e) * (c + 3) < (r' + (e + 4)) * B
    digit =
        let p : r * c < r' * B + B = lt-div-mul-add (omega arith) in
        let a : (r + e) * (c + 3) ≡ r * (c + 3) + e * (c + 3) = add-mul r e (c + 3) in
        let b : r * (c + 3) ≡ r * c + r * 3 = mul-add r c 3 in
        let d : e * (c + 3) ≤ e * B = mul-le-mul_left e below in
        omega arith

    digit_over : Over N (c + 3) W → (r + e) ^ N ≤ (r' + (e + 4)) ^ N * 2 ^ W
    unfolding Over
    digit_over o =
        let l : (r + e) * (c + 3) ≤ (r' + (e + 4)) * B = omega (arith, digit) in
        let h : ((r + e) * (c + 3)) ^ N ≤ ((r' + (e + 4)) * B) ^ N = pow-le-pow_left l N in
        squeeze_over ((r + e) ^ N) ((r' + (e + 4)) ^ N) ((c + 3) ^ N) (B ^ N) (2 ^ W) (power_pos N) (rw (mul_pow (r + e) (c + 3) N, mul_pow (r' + (e + 4)) B N) at h) o

    digit_strict : N ≢ 0 → Over N (c + 3) W → (r + e) ^ N < (r' + (e + 4)) ^ N * 2 ^ W
    unfolding Over
    digit_strict n o =
        let h : ((r + e) * (c + 3)) ^ N < ((r' + (e + 4)) * B) ^ N = pow-lt-pow_left digit n in
        squeeze_strict ((r + e) ^ N) ((r' + (e + 4)) ^ N) ((c + 3) ^ N) (B ^ N) (2 ^ W) (power_pos N) (pow_pos W) (rw (mul_pow (r + e) (c + 3) N, mul_pow (r' + (e + 4)) B N) at h) o

    shrinks : r' ≤ B
    shrinks =
        let a : r' * B ≤ r * c = div-mul-le_self (r * c) B in
        let b : r * c ≤ r * B = mul-le-mul_left r (omega arith) in
        omega arith

-- ---- all digits

digits_set : (a k : ℕ) → a / 2 ^ k % 2 ≡ 1 → a % 2 ^ suc k ≡ a % 2 ^ k + 2 ^ k
digits_set a k h =
    let e : suc k ≡ 1 + k = omega arith in
    let m : a % 2 ^ (1 + k) ≡ (a / 2 ^ k % 2 ^ 1) * 2 ^ k + a % 2 ^ k = mod-pow-add a 1 k in
    ap (λ (j : ℕ). a % 2 ^ j) e ∙ m ∙ ap (λ (j : ℕ). j * 2 ^ k + a % 2 ^ k) h ∙ omega arith

digits_clear : (a k : ℕ) → a / 2 ^ k % 2 ≡ 0 → a % 2 ^ suc k ≡ a % 2 ^ k
digits_clear a k h =
    let e : suc k ≡ 1 + k = omega arith in
    let m : a % 2 ^ (1 + k) ≡ (a / 2 ^ k % 2 ^ 1) * 2 ^ k + a % 2 ^ k = mod-pow-add a 1 k in
    ap (λ (j : ℕ). a % 2 ^ j) e ∙ m ∙ ap (λ (j : ℕ). j * 2 ^ k + a % 2 ^ k) h ∙ omega arith

bit_clear : (n : ℕ) → eqb (n % 2) 1 ≡ false → n % 2 ≡ 0
bit_clear n h = let k : n % 2 ≢ 1 = eqb-false (n % 2) 1 h in omega arith

module _ (N a : ℕ) where
  all_under : (cs : List ℕ) (r : ℕ) → Rows N cs → falling_from cs a r ^ N * 2 ^ (a % 2 ^ length cs) ≤ r ^ N
  unfolding falling_from
  all_under [] r h = let z : a % 1 ≡ 0 = omega arith in rw z (omega arith)
  all_under (c ∷ cs) r h = go (eqb (a / 2 ^ length cs % 2) 1) refl (λ s. all_under cs s h.3)
    where
      go : (b : Bool) → eqb (a / 2 ^ length cs % 2) 1 ≡ b → ((s : ℕ) → falling_from cs a s ^ N * 2 ^ (a % 2 ^ length cs) ≤ s ^ N)
          → falling_from cs a (cond b (r * c / B) r) ^ N * 2 ^ (a % 2 ^ suc (length cs)) ≤ r ^ N
      go true e more =
          let x : ℕ = falling_from cs a (r * c / B) ^ N in
          let p : ℕ = 2 ^ (a % 2 ^ length cs) in
          let q : ℕ = 2 ^ (2 ^ length cs) in
          let l : x * p * q ≤ (r * c / B) ^ N * q = mul-le-mul_right q (more (r * c / B)) in
          rw
          (digits_set a (length cs) (eqb-true (a / 2 ^ length cs % 2) 1 e), pow-add 2 (a % 2 ^ length cs) (2 ^ length cs), ← mul_assoc x p q)
          (le_trans l (digit_under N r c (2 ^ length cs) h.0))
      go false e more = rw (digits_clear a (length cs) (bit_clear (a / 2 ^ length cs) e)) (more r)

  all-over : (cs : List ℕ) (r e : ℕ) → r ≤ B → Rows N cs → (r + e) ^ N ≤ (falling_from cs a r + (e + 4 * length cs)) ^ N * 2 ^ (a % 2 ^ length cs)
  unfolding falling_from
  all-over [] r e l h =
      let z : a % 1 ≡ 0 = omega arith in
      let k : e + 4 * 0 ≡ e = omega arith in
      rw (z, k) (omega arith)
  all-over (c ∷ cs) r e l h = go (eqb (a / 2 ^ length cs % 2) 1) refl (λ s e k. all-over cs s e k h.3)
    where
      n : ℕ
      n = length cs

      go : (b : Bool) → eqb (a / 2 ^ length cs % 2) 1 ≡ b
          → ((s e : ℕ) → s ≤ B → (s + e) ^ N ≤ (falling_from cs a s + (e + 4 * length cs)) ^ N * 2 ^ (a % 2 ^ length cs))
          → (r + e) ^ N ≤ (falling_from cs a (cond b (r * c / B) r) + (e + 4 * suc (length cs))) ^ N * 2 ^ (a % 2 ^ suc (length cs))
      go true f more =
          let s : ℕ = r * c / B in
          let x : ℕ = falling_from cs a s in
          let p : ℕ = 2 ^ (a % 2 ^ length cs) in
          let q : ℕ = 2 ^ (2 ^ length cs) in
          let k : e + 4 * suc (length cs) ≡ e + 4 + 4 * length cs = omega arith in
          let m : (s + (e + 4)) ^ N * q ≤ (x + (e + 4 + 4 * length cs)) ^ N * p * q = mul-le-mul_right q (more s (e + 4) (shrinks N r c (2 ^ length cs) e l h.2)) in
          rw
          (k, digits_set a (length cs) (eqb-true (a / 2 ^ length cs % 2) 1 f), pow-add 2 (a % 2 ^ length cs) (2 ^ length cs), ← mul_assoc ((x + (e + 4 + 4 * length cs)) ^ N) p q)
          (le_trans (digit_over N r c (2 ^ length cs) e l h.2 h.1) m)
      go false f more =
          let x : ℕ = falling_from cs a r in
          let p : ℕ = 2 ^ (a % 2 ^ length cs) in
          let k : x + (e + 4 * length cs) ≤ x + (e + 4 * suc (length cs)) = omega arith in
          rw (digits_clear a (length cs) (bit_clear (a / 2 ^ length cs) f)) (le_trans (more r e l) (mul-le-mul_right p (pow-le-pow_left k N)))

  -- and with one number at least, the excess is strict
  over_strict : (c : ℕ) (cs : List ℕ) (r : ℕ) → N ≢ 0 → r ≤ B → Rows N (c ∷ cs)
      → r ^ N < (falling_from (c ∷ cs) a r + 4 * suc (length cs)) ^ N * 2 ^ (a % 2 ^ suc (length cs))
  unfolding falling_from
  over_strict c cs r nz l h = go (eqb (a / 2 ^ length cs % 2) 1) refl
    where
      go : (b : Bool) → eqb (a / 2 ^ length cs % 2) 1 ≡ b
          → r ^ N < (falling_from cs a (cond b (r * c / B) r) + 4 * suc (length cs)) ^ N * 2 ^ (a % 2 ^ suc (length cs))
      go true f =
          let s : ℕ = r * c / B in
          let x : ℕ = falling_from cs a s in
          let p : ℕ = 2 ^ (a % 2 ^ length cs) in
          let q : ℕ = 2 ^ (2 ^ length cs) in
          let k : 4 * suc (length cs) ≡ 4 + 4 * length cs = omega arith in
          let z : r + 0 ≡ r = omega arith in
          let m : (s + 4) ^ N * q ≤ (x + (4 + 4 * length cs)) ^ N * p * q = mul-le-mul_right q (all-over cs s 4 (shrinks N r c (2 ^ length cs) 0 l h.2) h.3) in
          let d : (r + 0) ^ N < (s + (0 + 4)) ^ N * q = digit_strict N r c (2 ^ length cs) 0 l h.2 nz h.1 in
          let d' : r ^ N < (s + 4) ^ N * q = rw z at d in
          rw
          (k, digits_set a (length cs) (eqb-true (a / 2 ^ length cs % 2) 1 f), pow-add 2 (a % 2 ^ length cs) (2 ^ length cs), ← mul_assoc ((x + (4 + 4 * length cs)) ^ N) p q)
          (omega arith)
      go false f =
          let x : ℕ = falling_from cs a r in
          let p : ℕ = 2 ^ (a % 2 ^ length cs) in
          let z : r + 0 ≡ r = omega arith in
          let o : (r + 0) ^ N ≤ (x + (0 + 4 * length cs)) ^ N * p = all-over cs r 0 l h.3 in
          let k : x + (0 + 4 * length cs) < x + 4 * suc (length cs) = omega arith in
          let t : (x + (0 + 4 * length cs)) ^ N * p < (x + 4 * suc (length cs)) ^ N * p = mul-lt-mul_of_pos_right (pow-lt-pow_left k nz) (pow_pos (a % 2 ^ length cs)) in
          let o' : r ^ N ≤ (x + (0 + 4 * length cs)) ^ N * p = rw z at o in
          rw (digits_clear a (length cs) (bit_clear (a / 2 ^ length cs) f)) (omega arith)

-- ---- the document's words

table-length : length table ≡ 24
unfolding table table_from
table-length = refl

strict : (N a : ℕ) (cs : List ℕ) → 0 < length cs → N ≢ 0 → (r : ℕ) → r ≤ B → Rows N cs → r ^ N < (falling_from cs a r + 4 * length cs) ^ N * 2 ^ (a % 2 ^ length cs)
strict N a [] p nz r l h = absurd (omega arith)
strict N a (c ∷ cs) p nz r l h = over_strict N a c cs r nz l h

module _ (N a : ℕ) (is : N ≡ 2 ^ 24) (small : a < N) where
  weight : 2 ^ length table ≡ N
  weight = rw table-length (sym is)

  whole_a : a % 2 ^ length table ≡ a
  whole_a = rw weight (mod-eq_of_lt small)

  table-rows : Rows N table
  table-rows =
      rows N (2 ^ 31) (2 ^ 31) table table_chained
      (unfold Under in rw weight (le_of_eq (first_row N)))
      (unfold Over in rw weight (le_of_eq (sym (first_row N))))

  pub falling-between : (falling a ^ N * 2 ^ a ≤ 2 ^ (32 * N)) × (2 ^ (32 * N) < (falling a + 96) ^ N * 2 ^ a)
  unfolding falling
  falling-between =
      let u : falling_from table a B ^ N * 2 ^ (a % 2 ^ length table) ≤ B ^ N = all_under N a table B table-rows in
      let o : B ^ N < (falling_from table a B + 4 * length table) ^ N * 2 ^ (a % 2 ^ length table) =
      strict N a table (rw table-length (omega arith)) (omega arith) B (omega arith) table-rows in
      (rw (whole_a, ← pow_pow 2 32 N) at u, rw (whole_a, ← pow_pow 2 32 N, table-length) at o)

  -- so r is from about 2^31 to 2^32
  most : falling a ≤ B
  most = go (leb (falling a) B) refl
    where
      go : (b : Bool) → leb (falling a) B ≡ b → falling a ≤ B
      go true e = leb-true (falling a) B e
      go false e =
          let l : B ^ N < falling a ^ N = pow-lt-pow_left (leb-false (falling a) B e) (omega arith) in
          let p : falling a ^ N * 1 ≤ falling a ^ N * 2 ^ a = mul-le-mul_left (falling a ^ N) (pow_pos a) in
          absurd (omega (arith, falling-between.0, pow_pow 2 32 N))

  least : B < (falling a + 96) * 2
  least = go (leb ((falling a + 96) * 2) B) refl
    where
      go : (b : Bool) → leb ((falling a + 96) * 2) B ≡ b → B < (falling a + 96) * 2
      go true e =
          let l : ((falling a + 96) * 2) ^ N ≤ B ^ N = pow-le-pow_left (leb-true ((falling a + 96) * 2) B e) N in
          let p : (falling a + 96) ^ N * 2 ^ a ≤ (falling a + 96) ^ N * 2 ^ N = mul-le-mul_left ((falling a + 96) ^ N) (pow_mono {i = a} {j = N} (omega arith)) in
          absurd (omega (arith, falling-between.1, pow_pow 2 32 N, mul_pow (falling a + 96) 2 N))
      go false e = leb-false ((falling a + 96) * 2) B e

pub falling_range : (a : ℕ) → a < parts → (0 < falling a) × (falling a ≤ 2 ^ 32)
falling_range a h = let l = least parts a refl h in (omega arith, most parts a refl h)

-- of 0 no digit is set
none_set : (cs : List ℕ) (r : ℕ) → falling_from cs 0 r ≡ r
unfolding falling_from
none_set [] r = refl
none_set (c ∷ cs) r = rw (zero-div (2 ^ length cs)) (none_set cs r)

pub falling_none : falling 0 ≡ 2 ^ 32
unfolding falling
falling_none = none_set table (2 ^ 32)
