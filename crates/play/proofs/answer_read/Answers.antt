-- `play::answer_read` meets its contract: `cost`, or a call of the session language. Assumes nothing.
use mathlib.Core.Path.{sym, ◌∙◌}
use Rattle.play.proofs.Turns.{read_cost, read_strict, spoken-same}
use Rattle.play.proofs.answer_read.Goals as goal

pub returns-then-same : goal.returns-then-same
returns-then-same c =
    spoken-same (read_cost _ _ (sym c.same.ensures ∙ c.if-same.true)) (c.answer_cost.ensures _)

pub returns : goal.returns
returns c =
    spoken-same (read_strict _ _ (sym c.same.ensures ∙ c.if-same.false)) c.answer_strict.ensures
