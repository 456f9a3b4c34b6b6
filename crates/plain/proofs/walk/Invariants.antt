-- `walk` meets its contract: the loop goes on as the rules' walk, head by head. Assumes nothing.
use Rattle.param.specs.Param.{param_of}
use Rattle.plain.specs.Seen.{unwalked}
use Rattle.plain.proofs.Looking.{Going}
use Rattle.plain.proofs.walk.Given as goal

abbrev pub invariant-loop-at : goal.invariant-loop-at
invariant-loop-at l = Going l.initial.look.infos (param_of l.param).queue l.store l.initial.look.place (unwalked l.initial.look) l.look l.at
