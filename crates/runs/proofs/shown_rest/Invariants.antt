-- `runs::shown_rest` meets its contract. Assumes nothing.
use Rattle.std.proofs.Common.{◌≡◌, ◌%◌, ◌^◌, ◌≢◌, true}
use Rattle.rules.specs.Samples.{phase_of}
use Rattle.runs.specs.After.{after}
use Rattle.runs.specs.Each.{Each}
use Rattle.runs.proofs.shown_rest.Given as goal

abbrev pub invariant-loop-place : goal.invariant-loop-place
invariant-loop-place g l = record {
  next : l.t ≡ after l.times.period l.place-index l.times.first;
  each : Each (λ k b. goal.F-post g l.f (phase_of l.start_time l.duration (after l.times.period k l.times.first)) b) l.place-index l.bs;
  told : l.all ≡ true → Each (λ k b. b % 2 ^ 18 ≢ 0) l.place-index l.bs;
}
