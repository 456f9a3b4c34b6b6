-- `runs::curve_turns` meets its contract. Assumes nothing.
use Rattle.std.proofs.Common.{◌*◌}
use Rattle.rules.specs.Samples.{curve_sample}
use Rattle.rules.specs.Walk.{from_start}
use Rattle.runs.proofs.Filling.{Filled}
use Rattle.runs.proofs.curve_turns.Given as goal

abbrev pub invariant-loop-turn : goal.invariant-loop-turn
invariant-loop-turn l = Filled (from_start l.start_time l.intrinsic (curve_sample l.values l.start_time l.duration)) l.times.period l.times.first l.initial.out l.out (l.turn * 16) l.t
