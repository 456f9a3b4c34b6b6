-- `calls::next_rate` meets its contract: the word at the place, read. Assumes nothing.
use mathlib.Core.Path.{sym, ap, ◌∙◌}
use Rattle.text.specs.Words.{next_at}
use Rattle.text.proofs.Splitting.{no_word, not_read_lem, is_read}
use Rattle.calls.specs.Language.{rate_in}
use Rattle.calls.proofs.next_rate.Goals as goal

pub returns-then-line-at : goal.returns-then-line-at
returns-then-line-at c = sym (no_word rate_in _ _ c.if-line-at.true)

pub returns-in_err-value : goal.returns-in_err-value
returns-in_err-value c =
    ap (next_at _ _) c.from_residual.ensures ∙ sym (not_read_lem rate_in _ _ c.if-line-at.false _ c.word_end-to.ensures.0 (sym c.in_err-value.ensures))

pub returns : goal.returns
returns c = sym (is_read rate_in _ _ c.if-line-at.false _ c.word_end-to.ensures.0 (sym c.in_ok-value.ensures))
