-- `take_head` meets its contract: the rules' turn of one head. Assumes nothing.
use mathlib.Core.Path.{refl}
use native.Mathlib.Omega.{arith}
use Rattle.automation.proofs.Bodies.{ready_as}
use Rattle.automation.proofs.Heads.{lent_numbered, takes_head}
use Rattle.automation.proofs.take_head.Goals as goal

pub compute_event-requires : goal.compute_event-requires
compute_event-requires c =
    rw c.counted.ensures (
      ready_as c.requires.0 refl refl,
      omega arith,
      c.requires.2,
      lent_numbered _ _ _ c.length_of.ensures c.requires.4,
    )

pub returns : goal.returns
returns c = takes_head _ _ _ c.length_of.ensures _ _ _ _ c.counted.ensures c.compute_event.ensures
