-- The times of a run rise, and with them its phases: between those of two times lie those of the times between. Assumes nothing.
use Rattle.std.proofs.Common.{◌≡◌, ℕ, zero, suc, ◌+◌, ◌-◌, ◌*◌, ◌/◌, ◌%◌, ◌^◌, ◌<◌, ◌≤◌, Bool, true, false, not, ◌&&◌, ◌||◌, T, eqb, ltb, get_or, sym, refl, ap, ◌∙◌, subst, true≢false, zero-le, le_trans, le_of_eq, le_refl, lt_of_lt_of_le, lt_of_le_of_lt, le_of_lt, lt_irrefl, mul-le-mul_right, zero-lt-suc, mul_assoc, mul_comm, mul-pos, lt_of_not-le, zero-mul, suc-ne-zero, le_of_mul-le-mul_right, mul_left_comm, arith, eqb→eq, ltb→lt, pow_pos, ltb-true, le-ltb, ne_eqb}
use native.Mathlib.Nat.{eq_of_mul-eq-mul_right}
use borrow.Author.Tests.{lt-leb}
use lib.Ieee.{Float, nan, inf, fin, binary64, up, down, round, sum, add, sub, neg, div, le, lt, fits, is_nan, to_bits}
use lib.Ieee.Fits.{down_pos, up_pos, round-fits, add-fits, div-fits}
use lib.Ieee.Bits.{of_bits-to_bits}
use lib.Ieee.Exact.{HasValue, round_exact}
use lib.Ieee.Order.{transfer, round_mono}
use lib.Ieee.Positive.{first_pos}
use lib.Ieee.Scale.{grid, finite, round_val, round_under, round_same}
use Rattle.rules.specs.Numbers.{plus_zero, run}
use Rattle.rules.specs.Samples.{phase_of}
use Rattle.rounding_laws.specs.Parts.{Parted}
use Rattle.rounding_laws.proofs.Decode.{finite_field}
use Rattle.rounding_laws.proofs.Exact.{same_value_lem}
use Rattle.rounding_laws.proofs.Fuse.{add_value}
use Rattle.rounding_laws.proofs.Parts.{parted}
use Rattle.rounding_laws.proofs.Value.{value_finite, under_overflow}
use Rattle.rounding_laws.proofs.Wide.{add_finite, pattern_finite, round_no_nan}
use Rattle.decays.proofs.Between.{bits_less, bits_small}
use Rattle.phases.specs.Once.{Within}
use Rattle.runs.specs.After.{after}
use Rattle.runs.specs.Rising.{Is, Plain, Rises, Spans}
use Rattle.runs.proofs.Filling.{after_more, run_at}

-- ---- x is n of the smallest value

pub bits_of_finite : (x : Float) → T (fits binary64 x) → T (finite x) → to_bits binary64 x % 2 ^ 63 < 2047 * 2 ^ 52
bits_of_finite x fit fine =
    let n : to_bits binary64 x % 2 ^ 63 / 2 ^ 52 ≡ 2047 → ⊥ = finite_field binary64 (to_bits binary64 x) (subst (λ (v : Float). T (finite v)) (sym (of_bits-to_bits binary64 x fit)) fine) in omega arith

pub finite_of : (x : Float) → T (fits binary64 x) → to_bits binary64 x % 2 ^ 63 < 2047 * 2 ^ 52 → T (finite x)
finite_of x fit h = subst (λ (v : Float). T (finite v)) (of_bits-to_bits binary64 x fit) (pattern_finite (to_bits binary64 x) h)

pub plain_is : (x : Float) → T (fits binary64 x) → Plain x → (n : ℕ) × Is x n
plain_is x fit p =
    let h : to_bits binary64 x % 2 ^ 63 < 2047 * 2 ^ 52 = omega (arith, p.1) in
    let w = parted binary64 x fit (finite_of x fit h) in
    (_, unsigned w (lt-leb (2 ^ 63) (to_bits binary64 x) (omega (arith, p.1))))
  where
    unsigned : {s : Bool} {m j : ℕ} → Parted binary64 x s m j → s ≡ false → Is x (m * 2 ^ j)
    unsigned {s} {m} {j} w e = subst (λ (s : Bool). HasValue x s (m * 2 ^ j) (2 ^ 1074)) e w.value

-- it rounds to itself
pub own : (x : Float) (n : ℕ) → T (fits binary64 x) → Is x n → Is (round binary64 false n (2 ^ 1074)) n
own x n fit v = go (parted binary64 x fit (value_finite x false n (2 ^ 1074) v))
  where
    go : {s : Bool} {m j : ℕ} → Parted binary64 x s m j → Is (round binary64 false n (2 ^ 1074)) n
    go {s} {m} {j} w =
        let e : n ≡ m * 2 ^ j = eq_of_mul-eq-mul_right (2 ^ 1074) (pow_pos 1074) n (m * 2 ^ j) (same_value_lem x false s n (2 ^ 1074) (m * 2 ^ j) (2 ^ 1074) v w.value) in
        round_exact binary64 false n (2 ^ 1074) m j (pow_pos 1074) w.short (subst (λ (k : ℕ). k < 2 ^ 2098) e (under_overflow binary64 x false n fit v)) (ap (λ (k : ℕ). k * 2 ^ 1074) e)

pub le_is : (x y : Float) (a b : ℕ) → Is x a → Is y b → T (le x y) → a ≤ b
unfolding le lt
le_is nan y a b v w h = absurd v
le_is (inf s) y a b v w h = absurd v
le_is (fin true m e) y a b v w h = absurd (true≢false v.0)
le_is (fin false m e) nan a b v w h = absurd w
le_is (fin false m e) (inf t) a b v w h = absurd w
le_is (fin false m e) (fin true n d) a b v w h = absurd (true≢false w.0)
le_is (fin false m e) (fin false n d) a b v w h =
    le_of_mul-le-mul_right (transfer a b (2 ^ 1074) (2 ^ 1074) (m * up e) (n * up d) (down e) (down d) (down_pos e) (down_pos d) (sym v.1) (sym w.1) (lt_or_eq (m * up e * down d) (n * up d * down e) h)) (pow_pos 1074)
  where
    lt_or_eq : (i k : ℕ) → T (ltb i k || (eqb i k && true)) → i ≤ k
    lt_or_eq i k = go (ltb i k) (eqb i k) (ltb→lt i k) (eqb→eq i k)
      where
        go : (x y : Bool) → (T x → i < k) → (T y → i ≡ k) → T (x || (y && true)) → i ≤ k
        go true y f g t = le_of_lt (f tt)
        go false true f g t = le_of_eq (g tt)
        go false false f g t = absurd t

pub lt_is : (x y : Float) (a b : ℕ) → Is x a → Is y b → lt x y ≡ true → a < b
unfolding lt
lt_is nan y a b v w h = absurd v
lt_is (inf s) y a b v w h = absurd v
lt_is (fin true m e) y a b v w h = absurd (true≢false v.0)
lt_is (fin false m e) nan a b v w h = absurd w
lt_is (fin false m e) (inf t) a b v w h = absurd w
lt_is (fin false m e) (fin true n d) a b v w h = absurd (true≢false w.0)
lt_is (fin false m e) (fin false n d) a b v w h =
    lt_of_not-le
    (λ (g : b ≤ a).
    lt_irrefl (m * up e * down d)
    (lt_of_lt_of_le (ltb-true (m * up e * down d) (n * up d * down e) h)
    (transfer (n * up d) (m * up e) (down d) (down e) b a (2 ^ 1074) (2 ^ 1074) (pow_pos 1074) (pow_pos 1074) w.1 v.1 (mul-le-mul_right (2 ^ 1074) g))))

pub not_lt : (x y : Float) (a b : ℕ) → Is x a → Is y b → b ≤ a → lt x y ≡ false
not_lt x y a b v w h = go (lt x y) refl
  where
    go : (t : Bool) → lt x y ≡ t → t ≡ false
    go true e = absurd (lt_irrefl b (lt_of_le_of_lt h (lt_is x y a b v w e)))
    go false e = refl

pub not_le : (x y : Float) (a b : ℕ) → Is x a → Is y b → b < a → le x y ≡ false
not_le x y a b v w h = go (le x y) refl
  where
    go : (t : Bool) → le x y ≡ t → t ≡ false
    go true e = absurd (lt_irrefl b (lt_of_lt_of_le h (le_is x y a b v w (subst T (sym e) tt))))
    go false e = refl

-- ---- sums, differences and quotients

-- a smaller fraction than one that rounds to a finite number
pub finite_below : (a c b d : ℕ) → 0 < c → 0 < d → a * d ≤ b * c → T (finite (round binary64 false b d)) → T (finite (round binary64 false a c))
finite_below a c b d C D h t =
    finite_of (round binary64 false a c) (round-fits binary64 false a c)
    (bits_small false a c b d C D h (bits_of_finite (round binary64 false b d) (round-fits binary64 false b d) t))

pub rounded_is : (a c : ℕ) → T (finite (round binary64 false a c)) → Is (round binary64 false a c) (grid binary64 a c)
rounded_is a c t = round_val binary64 a c (round_under binary64 a c t)

-- the larger of two fractions over one denominator rounds to no less
pub rounded_mono : (a b d n k : ℕ) → 0 < d → a ≤ b → Is (round binary64 false a d) n → Is (round binary64 false b d) k → n ≤ k
rounded_mono a b d n k D h v w = le_is (round binary64 false a d) (round binary64 false b d) n k v w (round_mono binary64 a d b d D D (mul-le-mul_right d h))

pub add_is : (x y : Float) (a b : ℕ) → Is x a → Is y b → add binary64 x y ≡ round binary64 false (a + b) (2 ^ 1074)
unfolding sum
add_is x y a b v w = add_value binary64 false false a b (2 ^ 1074) (pow_pos 1074) x y v w

neg_is : (x : Float) (a : ℕ) → Is x a → HasValue (neg x) true a (2 ^ 1074)
unfolding neg
neg_is nan a v = absurd v
neg_is (inf s) a v = absurd v
neg_is (fin true m e) a v = absurd (true≢false v.0)
neg_is (fin false m e) a v = (refl, v.1)

pub sub_is : (x y : Float) (a b : ℕ) → Is x a → Is y b → b ≤ a → sub binary64 x y ≡ round binary64 false (a - b) (2 ^ 1074)
unfolding sub sum
sub_is x y a b v w h = add_value binary64 false true a b (2 ^ 1074) (pow_pos 1074) x (neg y) v (neg_is y b w) ∙ rw (le-ltb a b h)

pub div_is : (x y : Float) (a b : ℕ) → Is x a → Is y b → 0 < b → div binary64 x y ≡ round binary64 false a b
unfolding div
div_is nan y a b v w h = absurd v
div_is (inf s) y a b v w h = absurd v
div_is (fin true m e) y a b v w h = absurd (true≢false v.0)
div_is (fin false m e) nan a b v w h = absurd w
div_is (fin false m e) (inf t) a b v w h = absurd w
div_is (fin false m e) (fin true n d) a b v w h = absurd (true≢false w.0)
div_is (fin false m e) (fin false zero d) a b v w h = absurd (none w.1)
  where
    none : zero * up d * 2 ^ 1074 ≡ b * down d → ⊥
    none q = lt_irrefl 0 (subst (λ (k : ℕ). 0 < k) (sym q ∙ ap (λ (k : ℕ). k * 2 ^ 1074) (zero-mul (up d)) ∙ zero-mul (2 ^ 1074)) (mul-pos h (down_pos d)))
div_is (fin false m e) (fin false (suc n) d) a b v w h =
    rw (ne_eqb (suc n) 0 (suc-ne-zero n))
    (round_same binary64 false (m * up e * down d) (suc n * up d * down e) a b (mul-pos (mul-pos (zero-lt-suc n) (up_pos d)) (down_pos e)) h
    (eq_of_mul-eq-mul_right (2 ^ 1074) (pow_pos 1074) (m * up e * down d * b) (a * (suc n * up d * down e)) (cross (m * up e) (suc n * up d) (down e) (down d) v.1 w.1)))
  where
    cross : (M N E D : ℕ) → M * 2 ^ 1074 ≡ a * E → N * 2 ^ 1074 ≡ b * D → M * D * b * 2 ^ 1074 ≡ a * (N * E) * 2 ^ 1074
    cross M N E D p q =
        let l : M * D * b * 2 ^ 1074 ≡ M * 2 ^ 1074 * (b * D) = simp (mul_assoc, mul_comm, mul_left_comm) in
        let r : a * E * (N * 2 ^ 1074) ≡ a * (N * E) * 2 ^ 1074 = simp (mul_assoc, mul_comm, mul_left_comm) in
        l ∙ ap (λ (k : ℕ). k * (b * D)) p ∙ ap (λ (k : ℕ). a * E * k) (sym q) ∙ r

pub div_finite : (x y : Float) (b : ℕ) → Is y b → T (finite (div binary64 x y)) → T (finite x)
unfolding div
div_finite nan y b w t = t
div_finite (inf s) nan b w t = absurd w
div_finite (inf s) (inf u) b w t = absurd w
div_finite (inf s) (fin u n d) b w t = t
div_finite (fin s m e) y b w t = tt

pub sub_finite : (x y : Float) → T (finite (sub binary64 x y)) → T (finite x)
unfolding sub
sub_finite x y t = (add_finite binary64 x (neg y) t).0

pub above_zero : (y : Float) (b : ℕ) → Is y b → lt plus_zero y ≡ true → 0 < b
unfolding lt
above_zero nan b w h = absurd w
above_zero (inf s) b w h = absurd w
above_zero (fin true n d) b w h = absurd (true≢false w.0)
above_zero (fin false n d) b w h =
    let some : 0 < n * up d = first_pos (n * up d) 1 (lt_of_le_of_lt zero-le (ltb-true (0 * 1 * down d) (n * up d * 1) h)) in
    first_pos b (down d) (subst (λ (k : ℕ). 0 < k) w.1 (mul-pos some (pow_pos 1074)))

-- ---- times

module _ (dt : Float) where
  pub after_fits : (j : ℕ) (t : Float) → T (fits binary64 t) → T (fits binary64 (after dt j t))
  unfolding after
  after_fits zero t h = h
  after_fits (suc j) t h = add-fits binary64 (after dt j t) dt

  pub finite_back : (d : ℕ) (t : Float) → T (finite (after dt d t)) → T (finite t)
  unfolding after
  finite_back zero t h = h
  finite_back (suc d) t h = finite_back d t (add_finite binary64 (after dt d t) dt h).0

  module _ (b : ℕ) (p : Is dt b) where
    pub risen : (j : ℕ) (t : Float) (a : ℕ) → T (fits binary64 t) → Is t a → T (finite (after dt j t)) → (n : ℕ) × Is (after dt j t) n × (a ≤ n)
    unfolding after
    risen zero t a fit v f = (a, v, le_refl a)
    risen (suc j) t a fit v f =
        let r = risen j t a fit v (add_finite binary64 (after dt j t) dt f).0 in
        let e = add_is (after dt j t) dt r.0 b r.1 p in
        let k = rounded_is (r.0 + b) (2 ^ 1074) (subst (λ (x : Float). T (finite x)) e f) in
        let n = grid binary64 (r.0 + b) (2 ^ 1074) in
        (n, subst (λ (x : Float). Is x n) (sym e) k, le_trans r.2 (rounded_mono r.0 (r.0 + b) (2 ^ 1074) r.0 n (pow_pos 1074) (omega arith) (own (after dt j t) r.0 (after_fits j t fit) r.1) k))

-- ---- phases

module _ (start duration : Float) (s d : ℕ) (S : Is start s) (D : Is duration d) (some : 0 < d) where
  abbrev phase : Float → Float
  phase = phase_of start duration

  -- the steps from the start that a time takes, rounded
  abbrev steps : ℕ → ℕ
  steps n = grid binary64 (n - s) (2 ^ 1074)

  module _ (t : Float) (n : ℕ) (v : Is t n) (l : s ≤ n) where
    since : sub binary64 t start ≡ round binary64 false (n - s) (2 ^ 1074)
    since = sub_is t start n s v S l

    module _ (f : T (finite (sub binary64 t start))) where
      steps_is : Is (round binary64 false (n - s) (2 ^ 1074)) (steps n)
      steps_is = rounded_is (n - s) (2 ^ 1074) (subst (λ (x : Float). T (finite x)) since f)

      phase_is : phase t ≡ round binary64 false (steps n) d
      unfolding phase_of
      phase_is = rw since (div_is (round binary64 false (n - s) (2 ^ 1074)) duration (steps n) d steps_is D some)

  module _ (t u : Float) (n k : ℕ) (v : Is t n) (w : Is u k) (l : s ≤ n) (m : n ≤ k) (f : T (finite (sub binary64 u start))) where
    since_below : T (finite (sub binary64 t start))
    since_below =
        subst (λ (x : Float). T (finite x)) (sym (since t n v l))
        (finite_below (n - s) (2 ^ 1074) (k - s) (2 ^ 1074) (pow_pos 1074) (pow_pos 1074) (mul-le-mul_right (2 ^ 1074) (less n k m)) (subst (λ (x : Float). T (finite x)) (since u k w (le_trans l m)) f))
      where
        less : (n k : ℕ) → n ≤ k → n - s ≤ k - s
        less n k m = omega arith

    fewer : steps n ≤ steps k
    fewer = rounded_mono (n - s) (k - s) (2 ^ 1074) (steps n) (steps k) (pow_pos 1074) (less n k m) (steps_is t n v l since_below) (steps_is u k w (le_trans l m) f)
      where
        less : (n k : ℕ) → n ≤ k → n - s ≤ k - s
        less n k m = omega arith

    abbrev high : Type 0
    high = to_bits binary64 (phase u) % 2 ^ 63 < 2047 * 2 ^ 52

    at_u : high → to_bits binary64 (round binary64 false (steps k) d) % 2 ^ 63 < 2047 * 2 ^ 52
    at_u h = subst (λ (x : Float). to_bits binary64 x % 2 ^ 63 < 2047 * 2 ^ 52) (phase_is u k w (le_trans l m) f) h

    phase_less : high → to_bits binary64 (phase t) ≤ to_bits binary64 (phase u)
    phase_less h =
        rw (phase_is t n v l since_below, phase_is u k w (le_trans l m) f)
        (bits_less false (steps n) d (steps k) d some some (mul-le-mul_right d fewer) (at_u h))

    phase_small : high → to_bits binary64 (phase t) % 2 ^ 63 < 2047 * 2 ^ 52
    phase_small h =
        rw (phase_is t n v l since_below)
        (bits_small false (steps n) d (steps k) d some some (mul-le-mul_right d fewer) (at_u h))

pub small : (y : ℕ) → y ≤ 1023 * 2 ^ 52 → y % 2 ^ 63 < 2047 * 2 ^ 52
small y h = omega arith

since_finite : (start duration w : Float) (e : ℕ) → Is duration e → to_bits binary64 (phase_of start duration w) ≤ 1023 * 2 ^ 52 → T (finite (sub binary64 w start))
unfolding phase_of
since_finite start duration w e D h =
    div_finite (sub binary64 w start) duration e D (finite_of (phase_of start duration w) (div-fits binary64 (sub binary64 w start) duration) (small (to_bits binary64 (phase_of start duration w)) h))

-- between the first phase and the last
module _ (start duration time dt : Float) (fits_start : T (fits binary64 start)) (fits_duration : T (fits binary64 duration)) (fits_time : T (fits binary64 time)) (fits_dt : T (fits binary64 dt)) (r : Rises start duration time dt) where
  abbrev at : ℕ → Float
  at j = phase_of start duration (after dt j time)

  pub all-within : (bx j d : ℕ) → Spans bx (phase_of start duration time) (at (d + j)) → Within bx (at j)
  all-within bx j d h =
      let S = plain_is start fits_start r.steady.start_plain in
      let D = plain_is duration fits_duration r.steady.duration_plain in
      let A = plain_is time fits_time r.started.time_plain in
      let P = plain_is dt fits_dt r.steady.period_plain in
      let some = above_zero duration D.0 D.1 r.steady.some in
      let begun : S.0 ≤ A.0 = le_is start time S.0 A.0 S.1 A.1 (subst T (sym r.started.begun) tt) in
      go S.0 D.0 A.0 P.0 S.1 D.1 A.1 P.1 some begun
    where
      go : (s e a p : ℕ) → Is start s → Is duration e → Is time a → Is dt p → 0 < e → s ≤ a → Within bx (at j)
      go s e a p S D A P some begun =
          let u = after dt j time in
          let w = after dt d u in
          let same : after dt (d + j) time ≡ w = after_more dt d j time in
          let h' : Spans bx (phase_of start duration time) (phase_of start duration w) = subst (λ (x : Float). Spans bx (phase_of start duration time) (phase_of start duration x)) same h in
          let last = since_finite start duration w e D h'.3 in
          let fw = sub_finite w start last in
          let U = risen dt p P j time a fits_time A (finite_back dt d u fw) in
          let W = risen dt p P d u U.0 (after_fits dt j time fits_time) U.1 fw in
          let top = small (to_bits binary64 (phase_of start duration w)) h'.3 in
          let up = phase_less start duration s e S D some u w U.0 W.0 U.1 W.1 (le_trans begun U.2) W.2 last top in
          let mid = phase_small start duration s e S D some u w U.0 W.0 U.1 W.1 (le_trans begun U.2) W.2 last top in
          let fu = since_below start duration s e S D some u w U.0 W.0 U.1 W.1 (le_trans begun U.2) W.2 last in
          let low = phase_less start duration s e S D some time u a U.0 A U.1 begun U.2 fu mid in
          (le_trans h'.2 low, le_trans up h'.3, subst (λ (x : Float). T (not (is_nan x))) (sym (phase_is start duration s e S D some u U.0 U.1 (le_trans begun U.2) fu)) (round_no_nan binary64 false (steps start duration s e S D some U.0) e))

  -- sixteen of them
  pub sixteen_within : (bx : ℕ) → Spans bx (get_or (run (phase_of start duration) dt 16 time) 0 nan) (get_or (run (phase_of start duration) dt 16 time) 15 nan)
      → (i : ℕ) → i < 16 → Within bx (get_or (run (phase_of start duration) dt 16 time) i nan)
  sixteen_within bx h i l =
      let e : 15 - i + i ≡ 15 = omega arith in
      let h' : Spans bx (at 0) (at 15) = rw (← run_at (phase_of start duration) dt 16 0 time nan (omega arith), ← run_at (phase_of start duration) dt 16 15 time nan (omega arith)) h in
      rw (run_at (phase_of start duration) dt 16 i time nan l) (all-within bx i (15 - i) (rw e (first h')))
    where
      first : Spans bx (at 0) (at 15) → Spans bx (phase_of start duration time) (at 15)
      first h = unfold after in h
