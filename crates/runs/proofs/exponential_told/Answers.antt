-- `runs::exponential_told` meets its contract. Assumes nothing.
use Rattle.std.proofs.Common.{◌≡◌, ℕ, ◌/◌, ◌%◌, ◌^◌, ◌≢◌, ◌<◌, ◌⊎◌, T, length, get_or, sym, ◌∙◌, subst, inl, inr, ⊎_elim, rules, arith}
use lib.Ieee.{Float, nan, binary64, fits, mul}
use Rattle.rules.specs.Samples.{phase_of}
use Rattle.phases.proofs.Seen.{seen}
use Rattle.samples.specs.At.{exponential_over}
use Rattle.decays.specs.Cell.{Lifts, Middle}
use Rattle.runs.specs.After.{after}
use Rattle.runs.specs.Placed.{InLifts, InGrown, Grows, Celled, Grew}
use Rattle.runs.proofs.Cells.{ordered, told}
use Rattle.runs.proofs.Filling.{run_told}
use Rattle.runs.proofs.Telling.{settled}
use Rattle.runs.proofs.exponential_told.Goals.{After-cells_of}
use Rattle.runs.proofs.exponential_told.Goals as goal

-- what the first three passes have seen
module _ (u : After-cells_of) where
  abbrev size : ℕ
  size = length u.args.out.now

  fit : T (fits binary64 u.args.«from»)
  fit = subst T (sym u.well_formed.1.1.1.0.1) tt

  middle : Middle u.args.«from»
  middle = u.is_middle.ensures u.if-not-is_middle.false

  abbrev b : ℕ → ℕ
  b k = get_or u.shown_at.new.bs k 0

  abbrev n : ℕ → ℕ
  n k = get_or u.growths_by.new.ns k 0

  abbrev h : ℕ → ℕ
  h k = get_or u.cells_of.new.hs k 0

  abbrev low : ℕ → ℕ
  low k = get_or u.cells_of.new.ls k 0

  abbrev y : ℕ → Float
  y k = get_or u.cells_of.new.out k nan

  long : length u.shown_at.new.bs ≡ size
  long = search rules

  long_ns : length u.growths_by.new.ns ≡ size
  long_ns = search rules

  long_hs : length u.cells_of.new.hs ≡ size
  long_hs = search rules

  lifted : (k : ℕ) → k < size → InLifts (b k) × Lifts (mul binary64 u.args.l (phase_of u.args.start_time u.args.duration (after u.args.times.period k u.args.times.first))) (b k)
  lifted k m =
      let p = (u.shown_at.ensures u.if-not-shown_at.false).at k 0 (omega (arith, long)) in
      let w : InLifts (b k) × ((b k % 2 ^ 18 ≡ 0) ⊎ Lifts (mul binary64 u.args.l (phase_of u.args.start_time u.args.duration (after u.args.times.period k u.args.times.first))) (b k)) = search rules in
      (w.0, seen (b k % 2 ^ 18) w.1 p.1)

  grown : (k : ℕ) → k < size → InGrown (n k)
  grown k m = (u.growths_by.ensures.at k 0 0 (omega (arith, long))).0

  grows : (k : ℕ) → k < size → Grows (b k) (n k)
  grows k m = (u.growths_by.ensures.at k 0 0 (omega (arith, long))).1 u.if-not-growths_by.false

  cells : (k : ℕ) → k < size → Celled u.args.«from» (n k) (h k) (low k) (y k)
  cells k m = u.cells_of.ensures k (omega (arith, long_ns))

pub unsure_of-count-requires-clause-by_index : goal.unsure_of-count-requires-clause-by_index
unsure_of-count-requires-clause-by_index c = λ k l.
    let u = (goal.at.unsure_of-count-requires-clause-by_index c).After-cells_of in
    let m : k < size u = omega (arith, long_hs u) in
    ordered _ (b u k) (n u k) (h u k) (low u k) (y u k) (fit u) (middle u) (grown u k m) (cells u k m)

pub returns : goal.returns
unfolding exponential_over
returns c = λ t.
    let u = (goal.at.returns c).After-cells_of in
    let a = c.args in
    let w = c.unsure_of-count in
    let slow = w.new.slow in
    let out = c.cells_of.new.out in
    let last = c.settle.new.out in
    let long_out : length out ≡ size u = search rules in
    let long_slow : length slow ≡ size u = search rules in
    run_told (exponential_over a.start_time a.duration a.«from» a.l) a.times.period (size u) a.times.first last (c.settle.auto.out ∙ long_out)
    (λ k m.
    settled (λ k v. Grew a.«from» (b u k) v) slow w.result out k nan (get_or last k nan) (omega (arith, long_out)) (omega (arith, w.ensures.0, long_hs u, long_slow))
    (⊎_elim (λ o. inl (told _ (b u k) (n u k) (h u k) (low u k) (y u k) (fit u) (middle u) (grown u k m) (cells u k m) (grows u k m) o)) (λ o. inr o) (w.ensures.2 k (omega (arith, long_hs u))))
    (⊎_elim (λ q. let e : (b u k / 2 ^ 18 % 2 ^ 24 ≢ 0) → Grew a.«from» (b u k) (get_or last k nan) = search rules in inl (e (grows u k m).0)) (λ q. inr q) (c.settle.ensures.at k nan (omega (arith, long_out)))) _ (lifted u k m).1)
