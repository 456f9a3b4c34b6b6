-- `text::hex::next_bytes` meets its contract: the word at the place, read where it is not too long. Assumes nothing.
use mathlib.Core.Path.{sym, ap, ◌∙◌}
use Rattle.text.specs.Hex.{bytes_up_to, sized_at, bytes_at}
use Rattle.text.proofs.Splitting.{no_word, not_read_lem, is_read}
use Rattle.text.proofs.Pairs.{few, too_many}
use Rattle.text.proofs.hex.next_bytes.Goals as goal

pub returns-then-line-at : goal.returns-then-line-at
returns-then-line-at c = sym (no_word (bytes_up_to _) _ _ c.if-line-at.true)

pub returns-then-most-to : goal.returns-then-most-to
returns-then-most-to c =
    let w = c.word_end-to.ensures in
    sym (not_read_lem (bytes_up_to _) _ _ c.if-line-at.false _ w.0 (too_many _ _ _ _ w.1 w.2 c.if-most-to.true))

pub returns-in_err-value : goal.returns-in_err-value
unfolding sized_at
returns-in_err-value c =
    let w = c.word_end-to.ensures in
    ap (bytes_at _ _) c.from_residual.ensures
    ∙ sym (not_read_lem (bytes_up_to _) _ _ c.if-line-at.false _ w.0 (few _ _ _ _ w.1 w.2 c.if-most-to.false ∙ sym c.in_err-value.ensures))

pub returns : goal.returns
unfolding sized_at
returns c =
    let w = c.word_end-to.ensures in
    sym (is_read (bytes_up_to _) _ _ c.if-line-at.false _ w.0 (few _ _ _ _ w.1 w.2 c.if-most-to.false ∙ sym c.in_ok-value.ensures))
