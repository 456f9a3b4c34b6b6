-- `session::serve` meets its contract: each turn leaves a session that can go on. Assumes nothing.
use Rattle.session.specs.Session.{Going}
use Rattle.session.proofs.serve.Given as goal

abbrev pub invariant-turns : goal.invariant-turns
invariant-turns l = Going l.s.desk l.s.lines l.s.at l.input l.numbers l.file l.store l.out
