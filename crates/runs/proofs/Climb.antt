-- Positions of a run in a curve: they rise as its times do, and where all have one whole part the samples lie between the same two numbers. Assumes nothing.
use Rattle.std.proofs.Common.{◌≡◌, ℕ, suc, ◌+◌, ◌-◌, ◌*◌, ◌/◌, ◌%◌, ◌^◌, ◌<◌, ◌≤◌, min, true, false, not, T, List, length, get_or, pos, sym, refl, ap, ◌∙◌, subst, true≢false, zero-le, le_trans, le_of_eq, le_refl, lt_of_lt_of_le, le_of_suc-le-suc, lt_of_le_of_lt, le_of_lt, lt_irrefl, mul-le-mul_right, suc-mul, div-lt_iff_lt-mul, le_antisymm, mul-le-mul_left, mul-pos, lt_of_not-le, le-div_iff_mul-le, mul-one, arith, lit≤, pow_pos, le-leb}
use native.Mathlib.Nat.{eq_of_mul-eq-mul_right, min-eq_left}
use lib.Ieee.{Float, nan, inf, fin, binary32, binary64, up, down, round, sub, mul, div, le, lt, fits, is_nan, to_bits, to_unsigned, in_float}
use lib.Ieee.Fits.{down_pos, round-fits, sub-fits, div-fits}
use lib.Ieee.Nearest.{div_same}
use lib.Ieee.Scale.{grid, finite}
use Rattle.rules.specs.Numbers.{wide, whole_part, run}
use Rattle.rules.specs.Samples.{curve_sample}
use Rattle.rules.specs.Walk.{from_start}
use Rattle.rounding_laws.proofs.Exact.{same_value_lem}
use Rattle.rounding_laws.proofs.Fuse.{rescale, mul_value}
use Rattle.rounding_laws.proofs.Value.{value_unique}
use Rattle.rounding_laws.proofs.Wide.{round_no_nan}
use Rattle.samples.proofs.Curve.{curve_between}
use Rattle.samples.proofs.Floors.{wide_value}
use Rattle.decays.proofs.Between.{bits_less, bits_small}
use Rattle.phases.specs.Once.{Within}
use Rattle.runs.specs.After.{after}
use Rattle.runs.specs.Passes.{each, phase_sum}
use Rattle.runs.specs.Rising.{Is, Plain, Rises, Spans, Climbs, position_of, at_position}
use Rattle.runs.proofs.Ascent.{plain_is, le_is, lt_is, not_le, not_lt, own, finite_below, finite_of, rounded_is, rounded_mono, sub_is, div_is, div_finite, sub_finite, above_zero, after_fits, finite_back, risen, small}
use Rattle.runs.proofs.Filling.{after_more, run_at}
use Rattle.runs.proofs.Passing.{each_same}

-- ---- whole numbers, and whole parts

-- what a place of a curve is asked to be made an f64
pub counted : (n : ℕ) → n ≤ 4096 → T (in_float binary64 (pos n))
unfolding in_float
counted n h = rw (le-leb n (2 ^ 53) (le_trans h (lit≤ tt))) tt

pub whole_is : (x : Float) (n : ℕ) → Is x n → n / 2 ^ 1074 ≤ 2 ^ 64 - 1 → whole_part x ≡ n / 2 ^ 1074
unfolding whole_part to_unsigned
whole_is nan n v h = absurd v
whole_is (inf s) n v h = absurd v
whole_is (fin true m e) n v h = absurd (true≢false v.0)
whole_is (fin false m e) n v h =
    ap (λ (k : ℕ). min k (2 ^ 64 - 1)) (div_same (m * up e) (down e) n (2 ^ 1074) (down_pos e) (pow_pos 1074) v.1) ∙ min-eq_left h

pub wide_is : (k : ℕ) → k ≤ 2 ^ 53 → Is (wide k) (k * 2 ^ 1074)
wide_is k h = rescale (wide k) false k 1 (k * 2 ^ 1074) (2 ^ 1074) (lit≤ tt) (mul-one (k * 2 ^ 1074)) (wide_value k h)

one_bits : to_bits binary64 (fin false 1 (pos 0)) ≡ 1023 * 2 ^ 52
unfolding to_bits
one_bits = refl

fits_one : T (fits binary64 (fin false 1 (pos 0)))
unfolding fits
fits_one = tt

one : round binary64 false (2 ^ 1074) (2 ^ 1074) ≡ fin false 1 (pos 0)
one =
    value_unique binary64 (round binary64 false (2 ^ 1074) (2 ^ 1074)) (fin false 1 (pos 0)) false (2 ^ 1074) (2 ^ 1074) (round-fits binary64 false (2 ^ 1074) (2 ^ 1074)) fits_one (pow_pos 1074)
    (own (fin false 1 (pos 0)) (2 ^ 1074) fits_one (refl, refl)) (refl, refl)

-- what rounds to less than 1 is less than 1
under_one : (n : ℕ) → to_bits binary64 (round binary64 false n (2 ^ 1074)) < 1023 * 2 ^ 52 → n < 2 ^ 1074
under_one n h =
    lt_of_not-le
    (λ (g : 2 ^ 1074 ≤ n).
    lt_irrefl (to_bits binary64 (round binary64 false n (2 ^ 1074)))
    (lt_of_lt_of_le h
    (le_trans (le_of_eq (sym (ap (to_bits binary64) one ∙ one_bits)))
    (bits_less false (2 ^ 1074) (2 ^ 1074) n (2 ^ 1074) (pow_pos 1074) (pow_pos 1074) (mul-le-mul_right (2 ^ 1074) g) (small (to_bits binary64 (round binary64 false n (2 ^ 1074))) (le_of_lt h))))))

-- ---- between two numbers

sub_mono : (a b c : ℕ) → a ≤ b → a - c ≤ b - c
sub_mono a b c h = omega arith

module _ (top : ℕ) (ps : List Float) (m : Climbs top ps) (few : top ≤ 4095) where
  abbrev pub place : ℕ
  place = m.first / 2 ^ 1074

  abbrev base : ℕ
  base = place * 2 ^ 1074

  base_le : base ≤ m.first
  base_le = (le-div_iff_mul-le (pow_pos 1074)).0 (le_refl place)

  up_to : m.first ≤ m.last
  up_to = let e = m.each_is 15 (omega arith) in le_trans e.2 e.3

  pub place_under : place < top
  place_under = (div-lt_iff_lt-mul (pow_pos 1074)).1 (lt_of_le_of_lt up_to m.under)

  part_under : (n : ℕ) → n ≤ m.last → n / 2 ^ 1074 ≤ 2 ^ 64 - 1
  part_under n h = let l : n / 2 ^ 1074 < top = (div-lt_iff_lt-mul (pow_pos 1074)).1 (lt_of_le_of_lt h m.under) in le_trans (le_of_lt l) (le_trans few (lit≤ tt))

  pub place_is : whole_part (get_or ps 0 nan) ≡ place
  place_is = whole_is (get_or ps 0 nan) m.first m.first_is (part_under m.first up_to)

  abbrev pub fraction : ℕ → Float
  fraction i = sub binary64 (get_or ps i nan) (wide place)

  fraction_is : (i n : ℕ) → Is (get_or ps i nan) n → m.first ≤ n → fraction i ≡ round binary64 false (n - base) (2 ^ 1074)
  fraction_is i n v h = sub_is (get_or ps i nan) (wide place) n base v (wide_is place (le_trans (le_of_lt place_under) (le_trans few (lit≤ tt)))) (le_trans base_le h)

  abbrev bits : ℕ → ℕ
  bits n = to_bits binary64 (round binary64 false (n - base) (2 ^ 1074))

  bits_up : (a b : ℕ) → a ≤ b → bits b % 2 ^ 63 < 2047 * 2 ^ 52 → (bits a ≤ bits b) × (bits a % 2 ^ 63 < 2047 * 2 ^ 52)
  bits_up a b h t =
      let l = mul-le-mul_right (2 ^ 1074) (sub_mono a b base h) in
      (bits_less false (a - base) (2 ^ 1074) (b - base) (2 ^ 1074) (pow_pos 1074) (pow_pos 1074) l t, bits_small false (a - base) (2 ^ 1074) (b - base) (2 ^ 1074) (pow_pos 1074) (pow_pos 1074) l t)

  first_bits : to_bits binary64 (fraction 0) ≡ bits m.first
  first_bits = ap (to_bits binary64) (fraction_is 0 m.first m.first_is (le_refl m.first))

  last_bits : to_bits binary64 (fraction 15) ≡ bits m.last
  last_bits = ap (to_bits binary64) (fraction_is 15 m.last m.last_is up_to)

  pub fractions_within : (bx : ℕ) → Spans bx (fraction 0) (fraction 15) → (i : ℕ) → i < 16 → Within bx (fraction i)
  fractions_within bx h i l =
      let e = m.each_is i l in
      let n = e.0 in
      let hi : bits m.last ≤ 1023 * 2 ^ 52 = le_trans (le_of_eq (sym last_bits)) h.3 in
      let up = bits_up n m.last e.3 (small (bits m.last) hi) in
      let low = bits_up m.first n e.2 up.1 in
      let is = fraction_is i n e.1 e.2 in (
        le_trans h.2 (le_trans (le_of_eq first_bits) (le_trans low.0 (le_of_eq (sym (ap (to_bits binary64) is))))),
        le_trans (le_of_eq (ap (to_bits binary64) is)) (le_trans up.0 hi),
        subst (λ (x : Float). T (not (is_nan x))) (sym is) (round_no_nan binary64 false (n - base) (2 ^ 1074)),
      )

  pub one_place : to_bits binary64 (fraction 15) < 1023 * 2 ^ 52 → (i : ℕ) → i < 16 → whole_part (get_or ps i nan) ≡ place
  one_place h i l =
      let e = m.each_is i l in
      let n = e.0 in
      let u : m.last - base < 2 ^ 1074 = under_one (m.last - base) (subst (λ (k : ℕ). k < 1023 * 2 ^ 52) last_bits h) in
      whole_is (get_or ps i nan) n e.1 (part_under n e.3)
      ∙ le_antisymm (le_of_suc-le-suc ((div-lt_iff_lt-mul (pow_pos 1074)).1 (next n m.last base (2 ^ 1074) e.3 u refl))) ((le-div_iff_mul-le (pow_pos 1074)).1 (le_trans base_le e.2))
    where
      more : (n k b g : ℕ) → n ≤ k → k - b < g → n < b + g
      more n k b g h l = omega arith

      next : (n k b g : ℕ) → n ≤ k → k - b < g → b ≡ place * g → n < suc place * g
      next n k b g h l e = lt_of_lt_of_le (more n k b g h l) (le_of_eq (ap (λ (j : ℕ). j + g) e ∙ sym (suc-mul place g)))

  -- the samples by the two numbers are those by the positions
  pub alike : (values : List Float) → length ps ≡ 16 → to_bits binary64 (fraction 15) < 1023 * 2 ^ 52
      → each (λ p. phase_sum (get_or values place nan) (sub binary32 (get_or values (place + 1) nan) (get_or values place nan)) (sub binary64 p (wide place))) ps ≡ each (at_position values) ps
  unfolding at_position
  alike values long h =
      each_same (λ p. phase_sum (get_or values place nan) (sub binary32 (get_or values (place + 1) nan) (get_or values place nan)) (sub binary64 p (wide place))) (at_position values) ps
      (λ i l. rw (one_place h i (lt_of_lt_of_le l (le_of_eq long))))

-- ---- positions rise

module _ (start duration top : Float) (s d n : ℕ) (S : Is start s) (D : Is duration d) (some : 0 < d) (N : Is top n) where
  abbrev G : ℕ
  G = 2 ^ 1074

  abbrev one_step : ℕ → ℕ
  one_step a = grid binary64 (a - s) G

  abbrev two_steps : ℕ → ℕ
  two_steps a = grid binary64 (n * one_step a) (G * G)

  abbrev steps : ℕ → ℕ
  steps a = grid binary64 (two_steps a) d

  GG : 0 < G * G
  GG = mul-pos (pow_pos 1074) (pow_pos 1074)

  module _ (t : Float) (a : ℕ) (v : Is t a) (l : s ≤ a) (f : T (finite (sub binary64 t start))) where
    pub since_is : Is (sub binary64 t start) (one_step a)
    since_is = let e = sub_is t start a s v S l in subst (λ (x : Float). Is x (one_step a)) (sym e) (rounded_is (a - s) G (subst (λ (x : Float). T (finite x)) e f))

    times : mul binary64 top (sub binary64 t start) ≡ round binary64 false (n * one_step a) (G * G)
    times = mul_value false false n (one_step a) G G (pow_pos 1074) (pow_pos 1074) binary64 top (sub binary64 t start) N since_is

    module _ (g : T (finite (mul binary64 top (sub binary64 t start)))) where
      times_is : Is (mul binary64 top (sub binary64 t start)) (two_steps a)
      times_is = subst (λ (x : Float). Is x (two_steps a)) (sym times) (rounded_is (n * one_step a) (G * G) (subst (λ (x : Float). T (finite x)) times g))

      position_round : position_of top start duration t ≡ round binary64 false (two_steps a) d
      unfolding position_of
      position_round = div_is (mul binary64 top (sub binary64 t start)) duration (two_steps a) d times_is D some

      position_is : T (finite (position_of top start duration t)) → Is (position_of top start duration t) (steps a)
      position_is h = subst (λ (x : Float). Is x (steps a)) (sym position_round) (rounded_is (two_steps a) d (subst (λ (x : Float). T (finite x)) position_round h))

  -- of two times
  module _ (t u : Float) (a b : ℕ) (v : Is t a) (w : Is u b) (l : s ≤ a) (m : a ≤ b) (f : T (finite (sub binary64 t start))) (f' : T (finite (sub binary64 u start)))
      (g : T (finite (mul binary64 top (sub binary64 u start)))) (h : T (finite (position_of top start duration u))) where
    pub fewer : one_step a ≤ one_step b
    fewer =
        rounded_mono (a - s) (b - s) G (one_step a) (one_step b) (pow_pos 1074) (sub_mono a b s m)
        (rounded_is (a - s) G (subst (λ (x : Float). T (finite x)) (sub_is t start a s v S l) f)) (rounded_is (b - s) G (subst (λ (x : Float). T (finite x)) (sub_is u start b s w S (le_trans l m)) f'))

    fewer_times : n * one_step a ≤ n * one_step b
    fewer_times = mul-le-mul_left n fewer

    times_u : T (finite (round binary64 false (n * one_step b) (G * G)))
    times_u = subst (λ (x : Float). T (finite x)) (times u b w (le_trans l m) f') g

    times_t : T (finite (round binary64 false (n * one_step a) (G * G)))
    times_t = finite_below (n * one_step a) (G * G) (n * one_step b) (G * G) GG GG (mul-le-mul_right (G * G) fewer_times) times_u

    pub finite_times : T (finite (mul binary64 top (sub binary64 t start)))
    finite_times = subst (λ (x : Float). T (finite x)) (sym (times t a v l f)) times_t

    fewer_two : two_steps a ≤ two_steps b
    fewer_two =
        rounded_mono (n * one_step a) (n * one_step b) (G * G) (two_steps a) (two_steps b) GG fewer_times (rounded_is (n * one_step a) (G * G) times_t) (rounded_is (n * one_step b) (G * G) times_u)

    position_u : T (finite (round binary64 false (two_steps b) d))
    position_u = subst (λ (x : Float). T (finite x)) (position_round u b w (le_trans l m) f' g) h

    position_t : T (finite (round binary64 false (two_steps a) d))
    position_t = finite_below (two_steps a) d (two_steps b) d some some (mul-le-mul_right d fewer_two) position_u

    pub positions : Is (position_of top start duration t) (steps a) × (steps a ≤ steps b)
    positions = (
      position_is t a v l f finite_times (subst (λ (x : Float). T (finite x)) (sym (position_round t a v l f finite_times)) position_t),
      rounded_mono (two_steps a) (two_steps b) d (steps a) (steps b) some fewer_two (rounded_is (two_steps a) d position_t) (rounded_is (two_steps b) d position_u),
    )

    pub before : T (finite (position_of top start duration t))
    before = subst (λ (x : Float). T (finite x)) (sym (position_round t a v l f finite_times)) position_t

is_unique : (x : Float) (a b : ℕ) → Is x a → Is x b → a ≡ b
is_unique x a b v w = eq_of_mul-eq-mul_right (2 ^ 1074) (pow_pos 1074) a b (same_value_lem x false false a (2 ^ 1074) b (2 ^ 1074) v w)

-- ---- a run's positions

module _ (start duration time dt : Float) (fits_start : T (fits binary64 start)) (fits_duration : T (fits binary64 duration)) (fits_time : T (fits binary64 time)) (fits_dt : T (fits binary64 dt)) (r : Rises start duration time dt)
    (top : ℕ) (few : top ≤ 4095)
    (next : Plain (sub binary64 (after dt 16 time) start)) (short : lt (sub binary64 (after dt 16 time) start) duration ≡ true)
    (end : Plain (position_of (wide top) start duration (after dt 15 time))) (inside : lt (position_of (wide top) start duration (after dt 15 time)) (wide top) ≡ true) where
  abbrev at : ℕ → Float
  at j = after dt j time

  abbrev position : ℕ → Float
  position j = position_of (wide top) start duration (at j)

  S : (n : ℕ) × Is start n
  S = plain_is start fits_start r.steady.start_plain

  D : (n : ℕ) × Is duration n
  D = plain_is duration fits_duration r.steady.duration_plain

  A : (n : ℕ) × Is time n
  A = plain_is time fits_time r.started.time_plain

  P : (n : ℕ) × Is dt n
  P = plain_is dt fits_dt r.steady.period_plain

  some : 0 < D.0
  some = above_zero duration D.0 D.1 r.steady.some

  begun : S.0 ≤ A.0
  begun = le_is start time S.0 A.0 S.1 A.1 (subst T (sym r.started.begun) tt)

  N : Is (wide top) (top * 2 ^ 1074)
  N = wide_is top (le_trans few (lit≤ tt))

  -- d places before the time j
  back : (d j : ℕ) → T (finite (at (d + j))) → T (finite (at j))
  back d j h = finite_back dt d (at j) (subst (λ (x : Float). T (finite x)) (after_more dt d j time) h)

  plain_finite : (x : Float) → T (fits binary64 x) → Plain x → T (finite x)
  plain_finite x f p = finite_of x f (omega (arith, p.1))

  all_finite_lem : (j : ℕ) → j ≤ 16 → T (finite (at j))
  all_finite_lem j l = let e : 16 - j + j ≡ 16 = omega arith in back (16 - j) j (rw e (sub_finite (at 16) start (plain_finite (sub binary64 (at 16) start) (sub-fits binary64 (at 16) start) next)))

  -- the time j, in units
  ticks : (j : ℕ) → j ≤ 16 → (n : ℕ) × Is (at j) n × (A.0 ≤ n)
  ticks j l = risen dt P.0 P.1 j time A.0 fits_time A.1 (all_finite_lem j l)

  later : (d j : ℕ) (l : d + j ≤ 16) → (i : ℕ) → Is (at j) i → (n : ℕ) × Is (at (d + j)) n × (i ≤ n)
  later d j l i v =
      let h = all_finite_lem (d + j) l in
      rw (after_more dt d j time) (risen dt P.0 P.1 d (at j) i (after_fits dt j time fits_time) v (subst (λ (x : Float). T (finite x)) (after_more dt d j time) h))

  since_finite : (j : ℕ) → j ≤ 16 → T (finite (sub binary64 (at j) start))
  since_finite j l =
      let e : 16 - j + j ≡ 16 = omega arith in
      let t = ticks j l in
      let u = later (16 - j) j (le_of_eq e) t.0 t.1 in
      let b = subst (λ (k : ℕ). Is (at k) u.0) e u.1 in
      subst (λ (x : Float). T (finite x)) (sym (sub_is (at j) start t.0 S.0 t.1 S.1 (le_trans begun t.2)))
      (finite_below (t.0 - S.0) (2 ^ 1074) (u.0 - S.0) (2 ^ 1074) (pow_pos 1074) (pow_pos 1074) (mul-le-mul_right (2 ^ 1074) (sub_mono t.0 u.0 S.0 u.2))
      (subst (λ (x : Float). T (finite x)) (sub_is (at 16) start u.0 S.0 b S.1 (le_trans begun (le_trans t.2 u.2))) (plain_finite (sub binary64 (at 16) start) (sub-fits binary64 (at 16) start) next)))

  end_finite : T (finite (position 15))
  unfolding position_of
  end_finite = plain_finite (position 15) (div-fits binary64 (mul binary64 (wide top) (sub binary64 (at 15) start)) duration) end

  end_times : T (finite (mul binary64 (wide top) (sub binary64 (at 15) start)))
  unfolding position_of
  end_times = div_finite (mul binary64 (wide top) (sub binary64 (at 15) start)) duration D.0 D.1 end_finite

  abbrev units : ℕ → ℕ
  units n = steps start duration (wide top) S.0 D.0 (top * 2 ^ 1074) S.1 D.1 some N n

  abbrev tick : (j : ℕ) → j ≤ 16 → ℕ
  tick j l = (ticks j l).0

  order : (i j : ℕ) (l : i ≤ 16) (m : j ≤ 16) → i ≤ j → tick i l ≤ tick j m
  order i j l m h =
      let e : j - i + i ≡ j = omega arith in
      let u = later (j - i) i (le_trans (le_of_eq e) m) (tick i l) (ticks i l).1 in
      le_trans u.2 (le_of_eq (is_unique (at j) u.0 (tick j m) (subst (λ (k : ℕ). Is (at k) u.0) e u.1) (ticks j m).1))

  past : (j : ℕ) (l : j ≤ 16) → S.0 ≤ tick j l
  past j l = le_trans begun (ticks j l).2

  -- the position of a time before the last
  lane : (i : ℕ) (l : i ≤ 16) → i ≤ 15 → Is (position i) (units (tick i l)) × (units (tick i l) ≤ units (tick 15 (lit≤ tt)))
  lane i l h =
      positions start duration (wide top) S.0 D.0 (top * 2 ^ 1074) S.1 D.1 some N (at i) (at 15) (tick i l) (tick 15 (lit≤ tt)) (ticks i l).1 (ticks 15 (lit≤ tt)).1 (past i l) (order i 15 l (lit≤ tt) h)
      (since_finite i l) (since_finite 15 (lit≤ tt)) end_times end_finite

  from_first : (i : ℕ) (l : i ≤ 16) → i ≤ 15 → units (tick 0 (lit≤ tt)) ≤ units (tick i l)
  from_first i l h =
      let times = finite_times start duration (wide top) S.0 D.0 (top * 2 ^ 1074) S.1 D.1 some N (at i) (at 15) (tick i l) (tick 15 (lit≤ tt)) (ticks i l).1 (ticks 15 (lit≤ tt)).1 (past i l) (order i 15 l (lit≤ tt) h)
      (since_finite i l) (since_finite 15 (lit≤ tt)) end_times end_finite in
      let there = before start duration (wide top) S.0 D.0 (top * 2 ^ 1074) S.1 D.1 some N (at i) (at 15) (tick i l) (tick 15 (lit≤ tt)) (ticks i l).1 (ticks 15 (lit≤ tt)).1 (past i l) (order i 15 l (lit≤ tt) h)
      (since_finite i l) (since_finite 15 (lit≤ tt)) end_times end_finite in
      (positions start duration (wide top) S.0 D.0 (top * 2 ^ 1074) S.1 D.1 some N (at 0) (at i) (tick 0 (lit≤ tt)) (tick i l) (ticks 0 (lit≤ tt)).1 (ticks i l).1 (past 0 (lit≤ tt)) (order 0 i (lit≤ tt) l zero-le)
      (since_finite 0 (lit≤ tt)) (since_finite i l) times there).1

  under_top : units (tick 15 (lit≤ tt)) < top * 2 ^ 1074
  under_top = lt_is (position 15) (wide top) (units (tick 15 (lit≤ tt))) (top * 2 ^ 1074) (lane 15 (lit≤ tt) (lit≤ tt)).0 N inside

  abbrev list : List Float
  list = run (position_of (wide top) start duration) dt 16 time

  here : (i : ℕ) → i < 16 → (n : ℕ) → Is (position i) n → Is (get_or list i nan) n
  here i l n v = subst (λ (x : Float). Is x n) (sym (run_at (position_of (wide top) start duration) dt 16 i time nan l)) v

  pub climbs : Climbs top list
  climbs =
      record {
        first = units (tick 0 (lit≤ tt));
        last = units (tick 15 (lit≤ tt));
        first_is = here 0 (lit≤ tt) (units (tick 0 (lit≤ tt))) (lane 0 (lit≤ tt) zero-le).0;
        last_is = here 15 (lit≤ tt) (units (tick 15 (lit≤ tt))) (lane 15 (lit≤ tt) (lit≤ tt)).0;
        under = under_top;
        each_is = λ i l.
            let h : i ≤ 15 = omega arith in
            let k : i ≤ 16 = omega arith in
            let p = lane i k h in
            (units (tick i k), here i l (units (tick i k)) p.0, from_first i k h, p.1);
      }

  -- what is a curve's sample there
  abbrev step : ℕ → ℕ
  step n = one_step start duration (wide top) S.0 D.0 (top * 2 ^ 1074) S.1 D.1 some N n

  since : (i : ℕ) (l : i ≤ 16) → Is (sub binary64 (at i) start) (step (tick i l))
  since i l = since_is start duration (wide top) S.0 D.0 (top * 2 ^ 1074) S.1 D.1 some N (at i) (tick i l) (ticks i l).1 (past i l) (since_finite i l)

  before_end : (i : ℕ) (l : i ≤ 16) → le duration (sub binary64 (at i) start) ≡ false
  before_end i l =
      let less = rounded_mono (tick i l - S.0) (tick 16 (lit≤ tt) - S.0) (2 ^ 1074) (step (tick i l)) (step (tick 16 (lit≤ tt))) (pow_pos 1074) (sub_mono (tick i l) (tick 16 (lit≤ tt)) S.0 (order i 16 l (lit≤ tt) l))
      (subst (λ (x : Float). Is x (step (tick i l))) (sub_is (at i) start (tick i l) S.0 (ticks i l).1 S.1 (past i l)) (since i l))
      (subst (λ (x : Float). Is x (step (tick 16 (lit≤ tt)))) (sub_is (at 16) start (tick 16 (lit≤ tt)) S.0 (ticks 16 (lit≤ tt)).1 S.1 (past 16 (lit≤ tt))) (since 16 (lit≤ tt))) in
      not_le duration (sub binary64 (at i) start) D.0 (step (tick i l)) D.1 (since i l)
      (lt_of_le_of_lt less (lt_is (sub binary64 (at 16) start) duration (step (tick 16 (lit≤ tt))) D.0 (since 16 (lit≤ tt)) D.1 short))

  pub sample_is : (values : List Float) → 2 ≤ length values → length values ≤ 4096 → top ≡ length values - 1 → (intrinsic : Float) (i : ℕ) → i ≤ 15
      → at_position values (position i) ≡ from_start start intrinsic (curve_sample values start duration) (at i)
  unfolding at_position phase_sum from_start position_of
  sample_is values two all e intrinsic i l =
      let k : i ≤ 16 = omega arith in
      let q : le (wide (length values - 1)) (div binary64 (mul binary64 (wide (length values - 1)) (sub binary64 (at i) start)) duration) ≡ false =
      rw (← e) (not_le (wide top) (position i) (top * 2 ^ 1074) (units (tick i k)) N (lane i k l).0 (lt_of_le_of_lt (lane i k l).1 under_top)) in
      rw (not_lt (at i) start (tick i k) S.0 (ticks i k).1 S.1 (past i k), e)
      (curve_between values start duration (at i) two all (before_end i k) q (whole_part (div binary64 (mul binary64 (wide (length values - 1)) (sub binary64 (at i) start)) duration)) _ _ _ refl refl refl refl)
