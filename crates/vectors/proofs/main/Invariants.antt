-- `vectors::main` meets its contract: each line read is counted once, and no more are wrong than were read. Assumes nothing.
use Rattle.std.proofs.Common.{◌≡◌, ◌≤◌}
use Rattle.vectors.proofs.main.Given as goal

abbrev pub invariant-loop-passed : goal.invariant-loop-passed
invariant-loop-passed l = (l.lines ≡ l.passed) × (l.wrong ≤ l.lines)
