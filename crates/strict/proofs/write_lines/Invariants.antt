-- `strict::write_lines` meets its contract: with each line that is taken fewer bytes are left. Assumes nothing.
use Rattle.std.proofs.Common.{◌≡◌, ◌-◌, length}
use Rattle.strict.specs.Strict.{Going}
use Rattle.strict.proofs.write_lines.Given as goal

abbrev pub invariant-loop-lines : goal.invariant-loop-lines
invariant-loop-lines l = Going l.lines l.input l.strict × (length l.strict ≡ length l.initial.strict)

abbrev pub decreases-loop-lines : goal.decreases-loop-lines
decreases-loop-lines l = l.lines.to - l.lines.from
