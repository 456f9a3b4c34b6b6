-- `runs::linear_once` meets its contract. Assumes nothing.
use Rattle.std.proofs.Common.{◌*◌}
use Rattle.samples.specs.At.{linear_at}
use Rattle.runs.proofs.Filling.{Filled}
use Rattle.runs.proofs.linear_once.Given as goal

abbrev pub invariant-loop-turn : goal.invariant-loop-turn
invariant-loop-turn l = Filled (linear_at l.start_time l.duration l.line.c l.line.a) l.times.period l.times.first l.initial.out l.out (l.turn * 16) l.t
