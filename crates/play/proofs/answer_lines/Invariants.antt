-- `play::answer_lines` meets its contract: with each line that is taken fewer bytes are left. Assumes nothing.
use Rattle.std.proofs.Common.{◌-◌}
use Rattle.play.specs.Played.{Going}
use Rattle.play.proofs.answer_lines.Given as goal

abbrev pub invariant-loop-lines : goal.invariant-loop-lines
invariant-loop-lines l = Going l.desk l.lines l.at l.input l.strict l.numbers l.store l.said l.out

abbrev pub decreases-loop-lines : goal.decreases-loop-lines
decreases-loop-lines l = l.lines.to - l.lines.from
