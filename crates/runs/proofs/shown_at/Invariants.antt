-- `runs::shown_at` meets its contract. Assumes nothing.
use Rattle.std.proofs.Common.{◌≡◌, ◌*◌, ◌%◌, ◌^◌, ◌≢◌, true}
use Rattle.rules.specs.Samples.{phase_of}
use Rattle.runs.specs.After.{after}
use Rattle.runs.specs.Each.{Each}
use Rattle.runs.proofs.shown_at.Given as goal

abbrev pub invariant-loop-turn : goal.invariant-loop-turn
invariant-loop-turn g l = record {
  next : l.t ≡ after l.times.period (l.turn * 16) l.times.first;
  told : l.all ≡ true → Each (λ k b. goal.F-post g l.f (phase_of l.start_time l.duration (after l.times.period k l.times.first)) b × (b % 2 ^ 18 ≢ 0)) (l.turn * 16) l.bs;
}
