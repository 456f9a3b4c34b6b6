-- `runs::target_parts` meets its contract. Assumes nothing.
use Rattle.std.proofs.Common.{◌*◌}
use Rattle.samples.specs.At.{target_at}
use Rattle.rules.specs.Walk.{from_start}
use Rattle.runs.proofs.Filling.{Filled}
use Rattle.runs.proofs.target_parts.Given as goal

abbrev pub invariant-loop-part : goal.invariant-loop-part
invariant-loop-part l = Filled (from_start l.start l.intrinsic (target_at l.start l.constant l.line.c l.line.a)) l.times.period l.times.first l.initial.out l.out (l.part * 128) l.t
