-- `decode` meets its contract. Assumes nothing.
use mathlib.Core.Path.{sym, ◌∙◌}
use native.Mathlib.Omega.{arith}
use Rattle.coding.proofs.Read.{decodes_none, decodes_other, decodes_no_rate, decodes_no_edition, decodes}
use Rattle.coding.proofs.decode.Goals as goal

pub returns-then-state-ne-LENGTH : goal.returns-then-state-ne-LENGTH
returns-then-state-ne-LENGTH c = decodes_none _ c.if-state-ne-LENGTH.true c.none.ensures.0 c.none.ensures.1

pub returns-then-state-ne-VERSION : goal.returns-then-state-ne-VERSION
returns-then-state-ne-VERSION c = decodes_other _ c.if-state-ne-LENGTH.false c.if-state-ne-VERSION.true c.none-then-state-ne-VERSION.ensures.0 c.none-then-state-ne-VERSION.ensures.1

pub returns-then-state-gt1 : goal.returns-then-state-gt1
returns-then-state-gt1 c = decodes_no_rate _ c.if-state-ne-LENGTH.false c.if-state-ne-VERSION.false c.if-state-gt1.true c.none-then-state-gt1.ensures.0 c.none-then-state-gt1.ensures.1

pub returns-then-not-is_edition : goal.returns-then-not-is_edition
returns-then-not-is_edition c =
    decodes_no_edition _ c.if-state-ne-LENGTH.false c.if-state-ne-VERSION.false (omega (arith, c.if-state-gt1.false)) (sym c.is_edition.ensures ∙ c.if-not-is_edition.true) c.none-then-not-is_edition.ensures.0 c.none-then-not-is_edition.ensures.1

pub returns : goal.returns
returns c =
    decodes c.args.state.now c.queue_in-timeline.result c.if-state-ne-LENGTH.false c.if-state-ne-VERSION.false (omega (arith, c.if-state-gt1.false)) (sym c.is_edition.ensures ∙ c.if-not-is_edition.false) c.queue_in-timeline.ensures
    (rw (c.of_bits.ensures, c.of_bits-2.ensures, c.of_bits-3.ensures, c.rate_in-rate.ensures, c.edition_of-edition.ensures, c.of_bits-intrinsic.ensures, c.time_in-block.ensures, c.time_in-end.ensures, c.last_in-last.ensures) at c.from_parts.ensures)
