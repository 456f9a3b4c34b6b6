-- `text::hex::bytes_in` meets its contract: no character, `-`, or pairs of digits. Assumes nothing.
use mathlib.Core.Path.{sym, ap, ◌∙◌}
use borrow.Author.Tests.{eqb-true, eqb-false}
use Rattle.text.specs.Hex.{sized, sized_at}
use Rattle.text.proofs.Pairs.{no_character, no_bytes, some_bytes}
use Rattle.text.proofs.hex.bytes_in.Goals as goal

pub returns-then-is_empty : goal.returns-then-is_empty
unfolding sized sized_at
returns-then-is_empty c = sym (ap sized (no_character _ (eqb-true _ _ (sym c.if-is_empty.ensures))))

pub returns-then-same : goal.returns-then-same
unfolding sized sized_at
returns-then-same c = sym (ap sized (no_bytes _ (eqb-false _ _ (sym c.if-is_empty.ensures)) c.same.ensures c.if-same.true))

pub returns : goal.returns
returns c = c.pairs_in.ensures ∙ sym (ap sized (some_bytes _ (eqb-false _ _ (sym c.if-is_empty.ensures)) c.same.ensures c.if-same.false))
