-- `runs::curve_sixteen` meets its contract. Assumes nothing.
use Rattle.std.proofs.Common.{◌≡◌, ℕ, ◌-◌, ◌≤◌, length, pos, ap, ◌∙◌, subst, lt_of_le_of_lt, arith, lit≤, w64, to_z}
use lib.Ieee.{binary64, of_int}
use mir.Facts.{to_z_pos}
use Rattle.rules.specs.Numbers.{wide, run}
use Rattle.rules.specs.Samples.{curve_sample}
use Rattle.rules.specs.Walk.{from_start}
use Rattle.runs.proofs.Climb.{counted}
use Rattle.runs.proofs.curve_sixteen.Goals as goal
use Rattle.runs.proofs.curve_sixteen.Goals.{Start}

top_few : (n : ℕ) → n ≤ 4096 → n - 1 ≤ 4095
top_few n h = omega arith

module _ (s : Start) where
  abbrev top : ℕ
  top = length s.args.values.now - 1

  few : top ≤ 4095
  few = top_few (length s.args.values.now) s.requires.2

  same : to_z w64 top ≡ pos top
  same = to_z_pos w64 (lt_of_le_of_lt few (lit≤ tt))

  n_is : of_int binary64 (to_z w64 top) ≡ wide top
  unfolding wide
  n_is = ap (of_int binary64) same

pub int_to_float-n : goal.int_to_float-n
int_to_float-n c = let s = (goal.at.int_to_float-n c).Start in rw (same s) (counted (top s) (omega (arith, few s)))

pub curve_tried-requires : goal.curve_tried-requires
curve_tried-requires c =
    let s = (goal.at.curve_tried-requires c).Start in
    record {
      out_len = (c.requires.0, c.requires.1, c.requires.2, n_is s, c.positions_from-next.ensures.1);
      ps_value = c.positions_from-next.ensures.0;
    }

pub returns-then-curve_tried : goal.returns-then-curve_tried
returns-then-curve_tried c =
    (c.curve_tried.ensures c.if-curve_tried.true c.args.intrinsic, c.positions_from-next.ensures.1)

pub returns : goal.returns
returns c =
    (subst (λ (n : ℕ). c.curve_run.new.out ≡ run (from_start c.args.start_time c.args.intrinsic (curve_sample c.args.values.now c.args.start_time c.args.duration)) c.args.times.period n c.args.times.first) (c.curve_tried.auto.out ∙ c.requires.0) c.curve_run.ensures, c.positions_from-next.ensures.1)
