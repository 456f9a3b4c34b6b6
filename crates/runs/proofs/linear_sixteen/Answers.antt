-- `runs::linear_sixteen` meets its contract: the phases between two that are within are within (`proofs/Ascent.antt`). Assumes nothing.
use Rattle.std.proofs.Common.{◌≡◌, ℕ, ◌<◌, List, length, get_or, sym, ap, ◌∙◌, subst}
use lib.Ieee.{Float, nan}
use Rattle.rules.specs.Numbers.{run}
use Rattle.rules.specs.Samples.{phase_of}
use Rattle.samples.specs.At.{linear_at}
use Rattle.phases.specs.Once.{Within}
use Rattle.runs.specs.Passes.{each, phase_sum}
use Rattle.runs.specs.Rising.{Rises, Spans}
use Rattle.runs.proofs.Ascent.{sixteen_within}
use Rattle.runs.proofs.Filling.{run_length}
use Rattle.runs.proofs.Passing.{each-run}
use Rattle.runs.proofs.linear_sixteen.Goals as goal
use Rattle.runs.proofs.linear_sixteen.Goals.{After-phases_from-next, Start}

abbrev start : After-phases_from-next → Start
start f = f.before.before.before.before

abbrev ramp : After-phases_from-next → List Float
ramp f = let a = (start f).args in run (phase_of a.start_time a.duration) a.times.period 16 a.times.first

sixteen : (f : After-phases_from-next) (xs : List Float) → xs ≡ ramp f → length xs ≡ 16
sixteen f xs e = let a = (start f).args in ap length e ∙ run_length (phase_of a.start_time a.duration) a.times.period 16 a.times.first

lanes : (f : After-phases_from-next) (bx : ℕ) (xs : List Float) → xs ≡ ramp f → Rises (start f).args.start_time (start f).args.duration (start f).args.times.first (start f).args.times.period
    → Spans bx (get_or xs 0 nan) (get_or xs 15 nan) → (i : ℕ) → i < 16 → Within bx (get_or xs i nan)
lanes f bx xs e r h i l =
    let s = start f in
    let a = s.args in
    subst (λ (ys : List Float). Within bx (get_or ys i nan)) (sym e)
    (sixteen_within a.start_time a.duration a.times.first a.times.period
    r.steady.start_plain.2 r.steady.duration_plain.2 r.started.time_plain.2 r.steady.period_plain.2
    r bx (subst (λ (ys : List Float). Spans bx (get_or ys 0 nan) (get_or ys 15 nan)) e h) i l)

samples : (f : After-phases_from-next) (xs out : List Float) → xs ≡ ramp f → out ≡ each (phase_sum (start f).args.line.«c» (start f).args.line.a) xs
    → out ≡ run (linear_at (start f).args.start_time (start f).args.duration (start f).args.line.«c» (start f).args.line.a) (start f).args.times.period 16 (start f).args.times.first
unfolding linear_at phase_sum
samples f xs out e o =
    let a = (start f).args in
    o ∙ ap (each (phase_sum a.line.«c» a.line.a)) e ∙ each-run (phase_sum a.line.«c» a.line.a) (phase_of a.start_time a.duration) a.times.period 16 a.times.first

pub sums_within-requires : goal.sums_within-requires
sums_within-requires c =
    let f = (goal.at.sums_within-requires c).After-phases_from-next in
    let s = start f in
    let e = c.phases_from-next.ensures.0 in
    record {
      once = (s.requires.once.0, s.requires.once.1, sixteen f _ e, lanes f _ _ e (record { steady = s.requires.once.2 c.if-steady.true; started = c.is_begun.ensures c.if-is_begun.true }) (c.spans.ensures c.if-spans.true));
    }

pub returns-then-spans : goal.returns-then-spans
returns-then-spans c =
    let f = (goal.at.returns-then-spans c).After-phases_from-next in
    (samples f _ _ c.phases_from-next.ensures.0 c.sums_within.ensures, c.phases_from-next.ensures.1)

pub sums_tested-requires : goal.sums_tested-requires
sums_tested-requires c =
    let f = (goal.at.sums_tested-requires c).After-phases_from-next in
    let s = start f in
    record {
      once = (s.requires.once.0, s.requires.once.1, sixteen f _ c.phases_from-next.ensures.0);
    }

pub returns : goal.returns
returns c =
    let f = (goal.at.returns c).After-phases_from-next in
    (samples f _ _ c.phases_from-next.ensures.0 c.sums_tested.ensures, c.phases_from-next.ensures.1)
