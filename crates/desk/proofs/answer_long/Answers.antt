-- `desk::answer_long` meets its contract: one answer in a word. Assumes nothing.
use mathlib.Core.Path.{refl}
use native.Mathlib.Omega.{arith}
use Rattle.desk.specs.Desk.{unread, with_newline}
use Rattle.desk.proofs.Turns.{said}
use Rattle.desk.proofs.answer_long.Goals as goal

pub returns : goal.returns
unfolding unread with_newline
returns c =
    λ s. said _ _ s c.args.desk.lent s _ c.requires.0 c.word.ensures.0 c.requires.0.lent refl c.word.ensures.1 (omega arith)
