-- `CardReader::field_turn` meets its contract: the tests in their order, and what each leaves. Assumes nothing.
use mathlib.Core.Path.{◌≡◌}
use mathlib.Core.Bool.{true, false}
use borrow.Author.Tests.{not-false, eq-eqb, ne_eqb}
use Rattle.refusals.proofs.Rows.{found}
use Rattle.card.specs.Card.{tag_of, is_tag, is_range, is_wrong, is_misplaced, contents_turn, field_turn}
use Rattle.card_reader.specs.Reader.{FieldFits, reader_of}
use Rattle.card_reader.proofs.Does.{unknown, wrong, misplaced, cut, contents, refuses, same_turn}
use Rattle.card_reader.proofs.CardReader.field_turn.Goals as goal
use Rattle.card_reader.proofs.CardReader.field_turn.Goals.{Else-is_misplaced, Else-is_wrong, Else-not-is_tag, Else-not-is_whole}

-- ---- what the tests say, one after the other

known : (c : Else-not-is_tag) → is_tag (tag_of c.args.bytes.now) ≡ true
unfolding tag_of
known c = found c.is_tag.ensures c.if-not-is_tag.false

right : (c : Else-is_wrong) → is_wrong c.args.bytes.now ≡ false
right c = found c.is_wrong.ensures c.if-is_wrong.false

placed : (c : Else-is_misplaced) → is_misplaced c.args.self.ranged c.args.bytes.now ≡ false
placed c = found c.is_misplaced.ensures c.if-is_misplaced.false

fits : (c : Else-not-is_whole) → FieldFits c.args.bytes.now
unfolding tag_of
fits c =
    record {
      tag = found c.is_tag.ensures c.if-not-is_tag.false;
      right = found c.is_wrong.ensures c.if-is_wrong.false;
      whole = found c.is_whole.ensures c.if-not-is_whole.false;
    }

whole : (c : Else-not-is_whole) → let r = reader_of c.args.self c.args.numbers.now in field_turn c.args.bytes.now r ≡ contents_turn c.args.bytes.now r
whole c = let f = fits c in contents _ _ f.tag f.right (found c.is_misplaced.ensures c.if-is_misplaced.false) f.whole

-- ---- the needs

pub returns-then-not-is_tag : goal.returns-then-not-is_tag
unfolding tag_of
returns-then-not-is_tag c =
    refuses c.requires.0 (unknown _ _ (found c.is_tag.ensures c.if-not-is_tag.true)) c.refused.ensures

pub returns-then-is_wrong : goal.returns-then-is_wrong
returns-then-is_wrong c =
    let e = (goal.at.returns-then-is_wrong c).Else-not-is_tag in
    refuses c.requires.0 (wrong _ _ (known e) (found c.is_wrong.ensures c.if-is_wrong.true)) c.refused-then-is_wrong.ensures

pub returns-then-is_misplaced : goal.returns-then-is_misplaced
returns-then-is_misplaced c =
    let r = (goal.at.returns-then-is_misplaced c).Else-is_wrong in
    let e = (goal.at.returns-then-is_misplaced c).Else-not-is_tag in
    refuses c.requires.0 (misplaced _ _ (known e) (right r) (found c.is_misplaced.ensures c.if-is_misplaced.true)) c.refused-then-is_misplaced.ensures

pub returns-then-not-is_whole : goal.returns-then-not-is_whole
returns-then-not-is_whole c =
    let p = (goal.at.returns-then-not-is_whole c).Else-is_misplaced in
    let r = (goal.at.returns-then-not-is_whole c).Else-is_wrong in
    let e = (goal.at.returns-then-not-is_whole c).Else-not-is_tag in
    refuses c.requires.0 (cut _ _ (known e) (right r) (placed p) (found c.is_whole.ensures c.if-not-is_whole.true)) c.refused-then-not-is_whole.ensures

pub range_turn-requires : goal.range_turn-requires
unfolding tag_of is_range is_misplaced
range_turn-requires c =
    let f = (goal.at.range_turn-requires c).Else-not-is_whole in
    let p = (goal.at.range_turn-requires c).Else-is_misplaced in
    let range = eq-eqb _ 6 c.if-bytes-eq-RANGE.true in
    (c.requires.0, fits f, range, rw range at (placed p))

pub event_turn-requires : goal.event_turn-requires
unfolding tag_of is_range is_misplaced
event_turn-requires c =
    let f = (goal.at.event_turn-requires c).Else-not-is_whole in
    let p = (goal.at.event_turn-requires c).Else-is_misplaced in
    let event = ne_eqb _ 6 c.if-bytes-eq-RANGE.false in
    (c.requires.0, fits f, event, not-false _ (rw event at (placed p)))

pub returns-then-bytes-eq-RANGE : goal.returns-then-bytes-eq-RANGE
returns-then-bytes-eq-RANGE c = let f = (goal.at.returns-then-bytes-eq-RANGE c).Else-not-is_whole in same_turn (whole f) c.range_turn.ensures

pub returns-else-bytes-eq-RANGE : goal.returns-else-bytes-eq-RANGE
returns-else-bytes-eq-RANGE c = let f = (goal.at.returns-else-bytes-eq-RANGE c).Else-not-is_whole in same_turn (whole f) c.event_turn.ensures
