-- `play::serve` meets its contract: each turn leaves what can go on. Assumes nothing.
use Rattle.play.specs.Played.{Going}
use Rattle.play.proofs.serve.Given as goal

abbrev pub invariant-turns : goal.invariant-turns
invariant-turns l = Going l.p.desk l.p.lines l.p.at l.input l.strict l.numbers l.store l.said l.out
