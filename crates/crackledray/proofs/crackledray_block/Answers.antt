-- `crackledray_block` meets its contract. Assumes nothing.
use mathlib.Core.Path.{refl}
use Rattle.crackledray.proofs.Closing.{plays_bad, plays}
use Rattle.crackledray.proofs.crackledray_block.Goals as goal

pub returns-in_default : goal.returns-in_default
returns-in_default c = plays_bad _ c.in_default.ensures refl

pub answer-requires : goal.answer-requires
answer-requires c = (c.process-r.ensures.sound, c.in-Some.ensures.long)

pub returns : goal.returns
returns c = plays c.in-Some.ensures _ c.process-r.ensures c.answer.ensures
