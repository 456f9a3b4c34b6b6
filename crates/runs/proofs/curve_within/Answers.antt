-- `runs::curve_within` meets its contract (`proofs/Climb.antt`). Assumes nothing.
use Rattle.std.proofs.Common.{◌≡◌, ℕ, ◌+◌, ◌-◌, ◌*◌, ◌^◌, ◌<◌, ◌≤◌, List, length, get_or, pos, sym, ap, ◌∙◌, subst, lt_of_lt_of_le, arith, lit≤, w64, to_z}
use lib.Ieee.{Float, nan, binary32, binary64, of_int, sub, to_bits}
use mir.Facts.{to_z_pos}
use Rattle.rules.specs.Numbers.{wide}
use Rattle.phases.specs.Once.{Within}
use Rattle.runs.specs.Passes.{each, phase_sum}
use Rattle.runs.specs.Rising.{Spans, Between, Climbs, at_position}
use Rattle.runs.proofs.Climb.{counted, place, place_under, place_is, fraction, fractions_within, alike}
use Rattle.runs.proofs.Passing.{each-length, each_at, each-each}
use Rattle.runs.proofs.curve_within.Goals as goal
use Rattle.runs.proofs.curve_within.Goals.{After-whole-k, Start}

module _ (w : After-whole-k) where
  abbrev start : Start
  start = w.before.before.before.before.before

  abbrev ps : List Float
  ps = start.args.ps.now

  abbrev values : List Float
  values = start.args.values.now

  abbrev climbs : Climbs (length values - 1) ps
  climbs = start.requires.4

  few : length values - 1 ≤ 4095
  few = omega (arith, start.requires.3)

  abbrev k : ℕ
  k = place (length values - 1) ps climbs few

  k_is : w.whole-k.result ≡ k
  k_is = w.whole-k.ensures ∙ place_is (length values - 1) ps climbs few

  next : (w.whole-k.result + 1 < length values) × (w.whole-k.result < 4096)
  next = go w.whole-k.result k (length values) k_is (place_under (length values - 1) ps climbs few) few
    where
      go : (r k n : ℕ) → r ≡ k → k < n - 1 → n - 1 ≤ 4095 → (r + 1 < n) × (r < 4096)
      go r k n e l f = (omega arith, omega arith)

  same : to_z w64 w.whole-k.result ≡ pos w.whole-k.result
  same = to_z_pos w64 (lt_of_lt_of_le next.1 (lit≤ tt))

  wide_is : of_int binary64 (to_z w64 w.whole-k.result) ≡ wide k
  unfolding wide
  wide_is = ap (of_int binary64) (same ∙ ap pos k_is)

-- the fractions are those of `proofs/Climb.antt`
module _ (w : After-whole-k) (xs : List Float) (is : xs ≡ each (λ p. sub binary64 p (of_int binary64 (to_z w64 w.whole-k.result))) (ps w)) where
  xs_is : xs ≡ each (λ p. sub binary64 p (wide (k w))) (ps w)
  xs_is = is ∙ ap (λ (v : Float). each (λ p. sub binary64 p v) (ps w)) (wide_is w)

  long : length xs ≡ 16
  long = ap length xs_is ∙ each-length (λ p. sub binary64 p (wide (k w))) (ps w) ∙ (start w).requires.1

  lane_is : (i : ℕ) → i < 16 → get_or xs i nan ≡ fraction (length (values w) - 1) (ps w) (climbs w) (few w) i
  lane_is i l = ap (λ (ys : List Float). get_or ys i nan) xs_is ∙ each_at (λ p. sub binary64 p (wide (k w))) (ps w) i nan (omega (arith, l, (start w).requires.1))

  lanes : Between xs
  lanes bx h i l =
      subst (Within bx) (sym (lane_is i l))
      (fractions_within (length (values w) - 1) (ps w) (climbs w) (few w) bx
      (subst (λ (x : Float). Spans bx x (fraction (length (values w) - 1) (ps w) (climbs w) (few w) 15)) (lane_is 0 (lit≤ tt)) (subst (Spans bx (get_or xs 0 nan)) (lane_is 15 (lit≤ tt)) h)) i l)

  samples : (out : List Float) → to_bits binary64 (get_or xs 15 nan) < 1023 * 2 ^ 52
      → out ≡ each (phase_sum (get_or (values w) w.whole-k.result nan) (sub binary32 (get_or (values w) (w.whole-k.result + 1) nan) (get_or (values w) w.whole-k.result nan))) xs → out ≡ each (at_position (values w)) (ps w)
  samples out h o =
      o
      ∙ ap (λ (n : ℕ). each (phase_sum (get_or (values w) n nan) (sub binary32 (get_or (values w) (n + 1) nan) (get_or (values w) n nan))) xs) (k_is w)
      ∙ ap (each (phase_sum (get_or (values w) (k w) nan) (sub binary32 (get_or (values w) (k w + 1) nan) (get_or (values w) (k w) nan)))) xs_is
      ∙ each-each (phase_sum (get_or (values w) (k w) nan) (sub binary32 (get_or (values w) (k w + 1) nan) (get_or (values w) (k w) nan))) (λ p. sub binary64 p (wide (k w))) (ps w)
      ∙ alike (length (values w) - 1) (ps w) (climbs w) (few w) (values w) (start w).requires.1 (subst (λ (x : Float). to_bits binary64 x < 1023 * 2 ^ 52) (lane_is 15 (lit≤ tt)) h)

pub overflow_cast-k : goal.overflow_cast-k
overflow_cast-k c = record { sfits = lt_of_lt_of_le (next (goal.at.overflow_cast-k c).After-whole-k).1 (lit≤ tt) }

pub int_to_float-k : goal.int_to_float-k
int_to_float-k c = let w = (goal.at.int_to_float-k c).After-whole-k in rw (same w) (counted c.whole-k.result (omega (arith, next w)))

pub float_to_bits-xs : goal.float_to_bits-xs
float_to_bits-xs c = (c.spans.ensures c.if-spans.true).1

pub offset_bounds-values-k : goal.offset_bounds-values-k
offset_bounds-values-k c = omega (arith, next (goal.at.offset_bounds-values-k c).After-whole-k)

pub bounds-values-k : goal.bounds-values-k
bounds-values-k c = omega (arith, next (goal.at.bounds-values-k c).After-whole-k)

pub overflow_add-k : goal.overflow_add-k
overflow_add-k c = omega (arith, next (goal.at.overflow_add-k c).After-whole-k)

pub offset_bounds-values-k-then-xs-lt4607182418800017408 : goal.offset_bounds-values-k-then-xs-lt4607182418800017408
offset_bounds-values-k-then-xs-lt4607182418800017408 c = omega (arith, next (goal.at.offset_bounds-values-k-then-xs-lt4607182418800017408 c).After-whole-k)

pub bounds-values-k-then-xs-lt4607182418800017408 : goal.bounds-values-k-then-xs-lt4607182418800017408
bounds-values-k-then-xs-lt4607182418800017408 c = (next (goal.at.bounds-values-k-then-xs-lt4607182418800017408 c).After-whole-k).0

pub curve_part-requires : goal.curve_part-requires
curve_part-requires c =
    let w = (goal.at.curve_part-requires c).After-whole-k in
    let e = c.fractions.ensures in
    (c.requires.0, long w _ e, lanes w _ e, c.spans.ensures c.if-spans.true)

pub returns-then-xs-lt4607182418800017408 : goal.returns-then-xs-lt4607182418800017408
returns-then-xs-lt4607182418800017408 c = λ e. samples (goal.at.returns-then-xs-lt4607182418800017408 c).After-whole-k _ c.fractions.ensures _ c.if-xs-lt4607182418800017408.true (c.curve_part.ensures e)
