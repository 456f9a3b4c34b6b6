-- `CardReader::range_turn` meets its contract. Assumes nothing.
use mathlib.Core.Path.{sym, ◌∙◌}
use native.Mathlib.Omega.{arith}
use Rattle.card.proofs.Fields.{room, whole_parts}
use Rattle.card_reader.proofs.Does.{range_refused, at_start, refuses, does_range}
use Rattle.card_reader.proofs.CardReader.range_turn.Goals as goal

pub bounds_in-requires : goal.bounds_in-requires
bounds_in-requires c = room c.args.bytes.now c.requires.1.whole c.requires.1.right

pub field_length-requires : goal.field_length-requires
field_length-requires c = (whole_parts c.args.bytes.now c.requires.1.whole).0

pub kept-requires : goal.kept-requires
kept-requires c = omega (arith, at_start c.requires.0 c.requires.3, c.field_length.ensures.1)

pub returns-in-Ok : goal.returns-in-Ok
returns-in-Ok c =
    does_range c.args.bytes.now c.requires.0 c.field_length.ensures c.requires.3 c.requires.2 c.bounds_in.ensures c.with_edition-made.ensures c.in-Ok.is
    c.kept.ensures

pub returns-in-Err : goal.returns-in-Err
returns-in-Err c =
    refuses c.requires.0 (range_refused _ _ c.requires.2 (rw c.bounds_in.ensures at (sym c.with_edition-made.ensures.verdict ∙ c.in-Err.is))) c.refused.ensures
