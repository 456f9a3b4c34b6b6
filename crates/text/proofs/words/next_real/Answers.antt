-- `text::words::next_real` meets its contract: the word at the place, read. Assumes nothing.
use mathlib.Core.Path.{sym, ap, ◌∙◌}
use Rattle.text.specs.Floats.{float_in}
use Rattle.text.specs.Words.{next_at}
use Rattle.text.proofs.Splitting.{no_word, not_read_lem, is_read}
use Rattle.text.proofs.words.next_real.Goals as goal

pub returns-then-line-at : goal.returns-then-line-at
returns-then-line-at g c = sym (no_word (float_in g.T.Real.format) _ _ c.if-line-at.true)

pub returns-in_err-value : goal.returns-in_err-value
returns-in_err-value g c =
    ap (next_at g.T.Real.value _) c.from_residual.ensures
    ∙ sym (not_read_lem (float_in g.T.Real.format) _ _ c.if-line-at.false _ c.word_end-to.ensures.0 (sym c.in_err-value.ensures))

pub returns : goal.returns
returns g c = sym (is_read (float_in g.T.Real.format) _ _ c.if-line-at.false _ c.word_end-to.ensures.0 (sym c.in_ok-value.ensures))
