-- `runs::target_shown` meets its contract. Assumes nothing.
use Rattle.std.proofs.Common.{◌≡◌, ℕ, ◌%◌, ◌^◌, ◌<◌, ◌⊎◌, List, length, get_or, ap, ◌∙◌, inl, inr, ⊎_elim, rules, arith}
use lib.Ieee.{Float, nan, binary32, binary64, of_bits}
use Rattle.rules.specs.Numbers.{fused, run}
use Rattle.rules.specs.Samples.{phase_of}
use Rattle.rounding_laws.proofs.Decode.{finite_no_nan}
use Rattle.phases.proofs.Seen.{seen}
use Rattle.samples.specs.At.{target_at}
use Rattle.decays.specs.Told.{shown, Shows}
use Rattle.runs.specs.After.{after}
use Rattle.runs.specs.Placed.{Placed}
use Rattle.runs.proofs.Filling.{run_told}
use Rattle.runs.proofs.Shown.{factor_shown, factor, served, no_nan}
use Rattle.runs.proofs.Telling.{settled}
use Rattle.runs.proofs.target_shown.Goals.{After-settle}
use Rattle.runs.proofs.target_shown.Goals as goal

module _ (z : After-settle) where
  abbrev n : ℕ
  n = length z.args.out.now

  abbrev b : ℕ → ℕ
  b k = get_or z.shown_at.new.bs k 0

  abbrev u : ℕ → ℕ
  u k = get_or z.settle.new.out k 0

  long : length z.shown_at.new.bs ≡ n
  long = search rules

  long_us : length z.tell-count.new.us ≡ n
  long_us = search rules

  long_slow : length z.tell-count.new.slow ≡ n
  long_slow = search rules

  -- what the first pass placed
  place : (k : ℕ) → k < n → Placed z.args.few (phase_of z.args.start z.args.constant (after z.args.times.period k z.args.times.first)) (b k)
  place k h =
      let p = (z.shown_at.ensures z.if-not-shown_at.false).at k 0 (omega (arith, long)) in
      let w : (b k % 2 ^ 18 ≡ 0) ⊎ Placed z.args.few (phase_of z.args.start z.args.constant (after z.args.times.period k z.args.times.first)) (b k) = search rules in
      seen (b k % 2 ^ 18) w p.1

  -- and the later passes told
  shows : (k : ℕ) → k < n → Shows (b k) (u k)
  shows k h =
      settled (λ k y. Shows (b k) y) z.tell-count.new.slow z.tell-count.result z.tell-count.new.us k 0 (u k) (omega (arith, long_us)) (omega (arith, z.tell-count.ensures.0, long, long_slow)) (z.tell-count.ensures.2 k (omega (arith, long)))
      (⊎_elim (λ q. inl (search rules)) (λ q. inr q) (z.settle.ensures.at k 0 (omega (arith, long_us))))

  -- the sums with these factors are the samples
  samples : (out : List Float) → length out ≡ n → ((k : ℕ) → k < n → get_or out k nan ≡ fused binary32 z.args.line.a (of_bits binary64 (shown (b k) (u k))) z.args.line.«c»)
      → out ≡ run (target_at z.args.start z.args.constant z.args.line.«c» z.args.line.a) z.args.times.period n z.args.times.first
  unfolding target_at
  samples out e h =
      let a = z.args in
      run_told (target_at a.start a.constant a.line.«c» a.line.a) a.times.period n a.times.first out e
      (λ k m. h k m ∙ ap (λ (x : Float). fused binary32 a.line.a x a.line.«c») (factor_shown a.few _ (b k) z.requires.out_len_bound.1 (place k m) (u k) (shows k m)))

pub faded-requires-clause-factors : goal.faded-requires-clause-factors
faded-requires-clause-factors c = λ k h.
    let z = (goal.at.faded-requires-clause-factors c).After-settle in
    let p = c.requires.out_len_bound in
    (factor c.args.few _ (b z k) p.1 (place z k h) (u z k) (shows z k h), λ l r x v. (c.args.line.ends, served c.args.few _ (b z k) p.1 (place z k h) (u z k) (shows z k h) _ _ (p.2 c.if-exact.true)))

pub returns-then-exact : goal.returns-then-exact
returns-then-exact c = λ t. let z = (goal.at.returns-then-exact c).After-settle in samples z c.faded.new.out c.faded.auto.out (λ k h. let p = c.faded.ensures.at k nan h in search rules)

pub faded-requires-2-clause-factors : goal.faded-requires-2-clause-factors
faded-requires-2-clause-factors c = λ k h.
    let z = (goal.at.faded-requires-2-clause-factors c).After-settle in
    let t = c.args.line.ends in
    let f = factor c.args.few _ (b z k) c.requires.out_len_bound.1 (place z k h) (u z k) (shows z k h) in
    (f, λ l r x v. ((t.0, f.fit, t.1), (finite_no_nan _ t.2, no_nan f, finite_no_nan _ t.3)))

pub returns : goal.returns
returns c = λ t. let z = (goal.at.returns c).After-settle in samples z c.faded-2.new.out c.faded-2.auto.out (λ k h. let p = c.faded-2.ensures.at k nan h in search rules)
