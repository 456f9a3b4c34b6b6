-- `desk::poke` meets its contract: one answer in a word. Assumes nothing.
use mathlib.Core.Path.{refl}
use native.Mathlib.Omega.{arith}
use Rattle.answers.specs.Answers.{verdict_text}
use Rattle.desk.specs.Desk.{poking}
use Rattle.desk.proofs.Turns.{said}
use Rattle.desk.proofs.poke.Goals as goal

pub returns : goal.returns
unfolding poking verdict_text
returns c = said _ _ _ _ _ _ c.requires.0 c.word.ensures.0 c.requires.0.lent refl c.word.ensures.1 (omega arith)
