-- `desk::lend` meets its contract: one answer in a word. Assumes nothing.
use mathlib.Core.Path.{refl}
use native.Mathlib.Omega.{arith}
use Rattle.answers.specs.Answers.{verdict_text}
use Rattle.desk.specs.Desk.{lending}
use Rattle.desk.proofs.Turns.{said}
use Rattle.desk.proofs.lend.Goals as goal

pub returns : goal.returns
unfolding lending verdict_text
returns c = λ s. said _ _ s _ s _ c.requires.0 c.word.ensures.0 c.requires.1 refl c.word.ensures.1 (omega arith)
