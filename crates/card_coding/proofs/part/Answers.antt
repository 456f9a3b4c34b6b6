-- `part` meets its contract. Assumes nothing.
use mathlib.Core.Path.{◌≡◌, refl}
use mathlib.Core.Bool.{true}
use native.Mathlib.Omega.{arith}
use Rattle.refusals.proofs.Rows.{found}
use Rattle.card_reader.specs.Reader.{Feeds}
use Rattle.card_coding.specs.Array.{is_card}
use Rattle.card_coding.proofs.Kept.{passes, state_good, reader_sound, window_sound}
use Rattle.card_coding.proofs.Calls.{hears_bad, hears_long, hears_refused, feeds_part, part_taken, hears}
use Rattle.card_coding.proofs.part.Goals as goal
use Rattle.card_coding.proofs.part.Goals.{In-Some, Else-not-is_card}

good : (c : Else-not-is_card) → is_card c.args.card.now c.args.numbers.now c.args.window.now ≡ true
good c = found c.is_card.ensures c.if-not-is_card.false

fed : (c : In-Some) → Feeds c.args.part.now c.reader_in.result c.args.numbers.now c.args.window.now c.in-Some.next c.take.new.numbers c.take.new.window
fed c = feeds_part _ c.if-part-gt-PART.false c.in-Some.ensures refl

pub returns-then-not-is_card : goal.returns-then-not-is_card
returns-then-not-is_card c = hears_bad _ _ _ _ (found c.is_card.ensures c.if-not-is_card.true)

pub returns-then-part-gt-PART : goal.returns-then-part-gt-PART
returns-then-part-gt-PART c = hears_long _ _ _ _ (good (goal.at.returns-then-part-gt-PART c).Else-not-is_card) c.if-part-gt-PART.true

pub bounds-card-1 : goal.bounds-card-1
bounds-card-1 c = omega (arith, (passes _ _ _ (good (goal.at.bounds-card-1 c).Else-not-is_card)).card_long)

pub returns-then-card-ne0 : goal.returns-then-card-ne0
returns-then-card-ne0 c = hears_refused _ _ _ _ (good (goal.at.returns-then-card-ne0 c).Else-not-is_card) c.if-part-gt-PART.false c.if-card-ne0.true

pub reader_in-requires : goal.reader_in-requires
reader_in-requires c = let g = passes _ _ _ (good (goal.at.reader_in-requires c).Else-not-is_card) in (g.card_long, state_good _ g.counts)

pub take-requires : goal.take-requires
take-requires c =
    let g = passes _ _ _ (good (goal.at.take-requires c).Else-not-is_card) in
    let z = c.if-card-ne0.false in
    let x = c.reader_in.ensures in
    (reader_sound g z x, window_sound g z x)

pub put_card-requires : goal.put_card-requires
put_card-requires c = ((passes _ _ _ (good (goal.at.put_card-requires c).Else-not-is_card)).card_long, (fed (goal.at.put_card-requires c).In-Some).sound.param)

pub returns-in-Some : goal.returns-in-Some
returns-in-Some c =
    hears _ _ _ _ (good (goal.at.returns-in-Some c).Else-not-is_card) c.if-part-gt-PART.false c.if-card-ne0.false c.reader_in.ensures (fed (goal.at.returns-in-Some c).In-Some) c.put_card.ensures

-- a part that is not too long is taken
pub returns-in_default : goal.returns-in_default
returns-in_default c = absurd (part_taken _ _ _ _ _ _ c.if-part-gt-PART.false c.in_default.ensures refl)
