-- `runs::curve_tried` meets its contract (`proofs/Climb.antt`). Assumes nothing.
use Rattle.std.proofs.Common.{◌≡◌, ℕ, ◌-◌, ◌≤◌, true, T, List, length, get_or, sym, refl, ap, ◌∙◌, subst, arith, lit≤}
use lib.Ieee.{Float, nan, binary64, sub, lt, fits}
use Rattle.rules.specs.Numbers.{wide, run}
use Rattle.rules.specs.Samples.{curve_sample}
use Rattle.rules.specs.Walk.{from_start}
use Rattle.runs.specs.After.{after}
use Rattle.runs.specs.Passes.{each}
use Rattle.runs.specs.Rising.{Plain, Rises, Climbs, position_of, at_position}
use Rattle.runs.proofs.Climb.{climbs, sample_is}
use Rattle.runs.proofs.Filling.{run_length, run_at, run-same}
use Rattle.runs.proofs.Passing.{each-run}
use Rattle.runs.proofs.curve_tried.Goals as goal
use Rattle.runs.proofs.curve_tried.Goals.{Start}

top_few : (n : ℕ) → n ≤ 4096 → n - 1 ≤ 4095
top_few n h = omega arith

module _ (start : Start) where
  abbrev values : List Float
  values = start.args.values.now

  abbrev top : ℕ
  top = length values - 1

  few : top ≤ 4095
  few = top_few (length values) start.requires.out_len.2

  abbrev position : Float → Float
  position = position_of (wide top) start.args.start_time start.args.duration

  abbrev ps : List Float
  ps = start.args.ps.now

  ps_is : ps ≡ run position start.args.times.period 16 start.args.times.first
  ps_is = start.requires.ps_value ∙ ap (λ (n : Float). run (position_of n start.args.start_time start.args.duration) start.args.times.period 16 start.args.times.first) start.requires.out_len.3

  long : length ps ≡ 16
  long = ap length ps_is ∙ run_length position start.args.times.period 16 start.args.times.first

  module _ (r : Rises start.args.start_time start.args.duration start.args.times.first start.args.times.period)
      (s : Plain (sub binary64 start.args.next start.args.start_time) × (lt (sub binary64 start.args.next start.args.start_time) start.args.duration ≡ true))
      (e : Plain (get_or ps 15 nan) × (lt (get_or ps 15 nan) start.args.n ≡ true)) where
    abbrev fits_start : T (fits binary64 start.args.start_time)
    fits_start = r.steady.start_plain.2

    abbrev fits_duration : T (fits binary64 start.args.duration)
    fits_duration = r.steady.duration_plain.2

    abbrev fits_time : T (fits binary64 start.args.times.first)
    fits_time = r.started.time_plain.2

    abbrev fits_dt : T (fits binary64 start.args.times.period)
    fits_dt = r.steady.period_plain.2

    next : Plain (sub binary64 (after start.args.times.period 16 start.args.times.first) start.args.start_time) × (lt (sub binary64 (after start.args.times.period 16 start.args.times.first) start.args.start_time) start.args.duration ≡ true)
    next = subst (λ (t : Float). Plain (sub binary64 t start.args.start_time) × (lt (sub binary64 t start.args.start_time) start.args.duration ≡ true)) start.requires.out_len.4 s

    last_is : get_or ps 15 nan ≡ position (after start.args.times.period 15 start.args.times.first)
    last_is = ap (λ (xs : List Float). get_or xs 15 nan) ps_is ∙ run_at position start.args.times.period 16 15 start.args.times.first nan (lit≤ tt)

    end : Plain (position (after start.args.times.period 15 start.args.times.first)) × (lt (position (after start.args.times.period 15 start.args.times.first)) (wide top) ≡ true)
    end = subst (λ (x : Float). Plain x × (lt x (wide top) ≡ true)) last_is (subst (λ (n : Float). Plain (get_or ps 15 nan) × (lt (get_or ps 15 nan) n ≡ true)) start.requires.out_len.3 e)

    climb : Climbs top ps
    climb =
        subst (Climbs top) (sym ps_is)
        (climbs start.args.start_time start.args.duration start.args.times.first start.args.times.period fits_start fits_duration fits_time fits_dt r top few next.0 next.1 end.0 end.1)

    samples : (out : List Float) (v : Float) → out ≡ each (at_position values) ps
        → out ≡ run (from_start start.args.start_time v (curve_sample values start.args.start_time start.args.duration)) start.args.times.period 16 start.args.times.first
    samples out v o =
        o
        ∙ ap (each (at_position values)) ps_is
        ∙ each-run (at_position values) position start.args.times.period 16 start.args.times.first
        ∙ run-same (λ t. at_position values (position t)) (from_start start.args.start_time v (curve_sample values start.args.start_time start.args.duration)) start.args.times.period 16 start.args.times.first
        (λ i l.
        sample_is start.args.start_time start.args.duration start.args.times.first start.args.times.period fits_start fits_duration fits_time fits_dt r top few next.0 next.1 end.0 end.1
        values start.requires.out_len.1 start.requires.out_len.2 refl v i (omega arith))

pub curve_within-requires : goal.curve_within-requires
curve_within-requires c =
    let s = (goal.at.curve_within-requires c).Start in
    (c.requires.out_len.0, long s, c.requires.out_len.1, c.requires.out_len.2, climb s (c.rises.ensures c.if-rises.true) (c.short_of.ensures c.if-short_of.true) (c.short_of-then-short_of.ensures c.if-short_of-2.true))

pub returns-then-short_of-2 : goal.returns-then-short_of-2
returns-then-short_of-2 c = λ e v.
    let s = (goal.at.returns-then-short_of-2 c).Start in
    samples s (c.rises.ensures c.if-rises.true) (c.short_of.ensures c.if-short_of.true) (c.short_of-then-short_of.ensures c.if-short_of-2.true) _ v (c.curve_within.ensures e)
