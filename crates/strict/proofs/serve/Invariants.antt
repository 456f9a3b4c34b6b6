-- `strict::serve` meets its contract: each turn leaves what can go on. Assumes nothing.
use Rattle.std.proofs.Common.{◌≡◌, length}
use Rattle.strict.specs.Strict.{Going}
use Rattle.strict.proofs.serve.Given as goal

abbrev pub invariant-turns : goal.invariant-turns
invariant-turns l = Going l.r.lines l.input l.strict × (length l.input ≡ length l.initial.input) × (length l.strict ≡ length l.initial.strict)
