-- `text::words::next_count` meets its contract: the word at the place, read, and its ceiling. Assumes nothing.
use mathlib.Core.Path.{sym, ap, ◌∙◌}
use borrow.Author.Tests.{le-leb, lt-leb}
use Rattle.text.specs.Words.{up_to, count_in, next_at}
use Rattle.text.proofs.Splitting.{no_word, not_read_lem, is_read}
use Rattle.text.proofs.words.next_count.Goals as goal

pub returns-then-line-at : goal.returns-then-line-at
returns-then-line-at c = sym (no_word (count_in c.args.most) _ _ c.if-line-at.true)

pub returns-in_err-value : goal.returns-in_err-value
unfolding count_in up_to
returns-in_err-value c =
    let most = c.args.most in
    ap (next_at _ _) c.from_residual.ensures
    ∙ sym (not_read_lem (count_in most) _ _ c.if-line-at.false _ c.word_end-to.ensures.0 (ap (up_to most) (sym c.in_err-value.ensures)))

pub returns-then-most-value : goal.returns-then-most-value
unfolding count_in up_to
returns-then-most-value c =
    let most = c.args.most in
    let o = sym c.in_ok-value.ensures in
    sym (not_read_lem (count_in most) _ _ c.if-line-at.false _ c.word_end-to.ensures.0 (rw (o, lt-leb _ most c.if-most-value.true)))

pub returns : goal.returns
unfolding count_in up_to
returns c =
    let most = c.args.most in
    let o = sym c.in_ok-value.ensures in
    sym (is_read (count_in most) _ _ c.if-line-at.false _ c.word_end-to.ensures.0 (rw (o, le-leb _ most c.if-most-value.false)))
