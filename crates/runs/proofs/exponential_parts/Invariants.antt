-- `runs::exponential_parts` meets its contract. Assumes nothing.
use Rattle.std.proofs.Common.{◌*◌}
use Rattle.samples.specs.At.{exponential_over}
use Rattle.runs.proofs.Filling.{Filled}
use Rattle.runs.proofs.exponential_parts.Given as goal

abbrev pub invariant-loop-part : goal.invariant-loop-part
invariant-loop-part l = Filled (exponential_over l.start l.duration l.from l.l) l.times.period l.times.first l.initial.out l.out (l.part * 128) l.t
