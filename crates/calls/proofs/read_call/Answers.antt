-- `calls::read_call` meets its contract: no call, or the row whose word the first is. Assumes nothing.
use mathlib.Core.Path.{sym, ◌∙◌}
use borrow.Author.Tests.{eqb-true, eqb-false}
use Rattle.calls.proofs.Rows.{empty_line, comment, heard_by, by_word}
use Rattle.calls.proofs.read_call.Goals as goal
use Rattle.calls.proofs.read_call.Goals.{then-is_empty-via-then-is_empty, then-is_empty-via-else-is_empty+then-line-eq35}

pub returns-then-is_empty : goal.returns-then-is_empty
returns-then-is_empty c = elim c.then-is_empty.branch [
  | then-is_empty-via-then-is_empty w ↦ empty_line _ _ _ (eqb-true _ _ (sym c.is_empty.ensures ∙ w.if-is_empty.true))
  | then-is_empty-via-else-is_empty+then-line-eq35 w ↦ comment _ _ _ (eqb-false _ _ (sym c.is_empty.ensures ∙ w.if-is_empty.false)) w.if-line-eq35.true
]

pub returns : goal.returns
returns c = heard_by _ _ _ (by_word _ (eqb-false _ _ (sym c.if-is_empty.ensures)) c.if-line-eq35.false _ c.word_end-to.ensures.0) c.read_named.ensures
