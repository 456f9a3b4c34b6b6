-- `array::is_card` meets its contract. Assumes nothing.
use mathlib.Core.Path.{◌≡◌}
use mathlib.Core.Bool.{true}
use Rattle.refusals.proofs.Rows.{found}
use Rattle.card_coding.specs.Array.{are_long, is_head, is_card}
use Rattle.card_coding.proofs.Kept.{long, held_room}
use Rattle.card_coding.proofs.array.is_card.Goals as goal
use Rattle.card_coding.proofs.array.is_card.Goals.{Else-not-are_long, Else-not-is_head}

longs : (c : Else-not-are_long) → are_long c.args.card.now c.args.numbers.now c.args.window.now ≡ true
longs c = found c.are_long.ensures c.if-not-are_long.false

heads : (c : Else-not-is_head) → is_head c.args.card.now ≡ true
heads c = found c.is_head.ensures c.if-not-is_head.false

pub returns-then-not-are_long : goal.returns-then-not-are_long
unfolding is_card
returns-then-not-are_long c = rw (found c.are_long.ensures c.if-not-are_long.true)

pub is_head-requires : goal.is_head-requires
is_head-requires c = (long _ _ _ (longs c)).0

pub returns-then-not-is_head : goal.returns-then-not-is_head
unfolding is_card
returns-then-not-is_head c = rw (longs (goal.at.returns-then-not-is_head c).Else-not-are_long, found c.is_head.ensures c.if-not-is_head.true)

pub is_waiting-requires : goal.is_waiting-requires
is_waiting-requires c = let h = long _ _ _ (longs (goal.at.is_waiting-requires c).Else-not-are_long) in (h.0, held_room _ (heads c), h.2)

pub returns-then-not-is_waiting : goal.returns-then-not-is_waiting
unfolding is_card
returns-then-not-is_waiting c = rw (longs (goal.at.returns-then-not-is_waiting c).Else-not-are_long, heads (goal.at.returns-then-not-is_waiting c).Else-not-is_head, found c.is_waiting.ensures c.if-not-is_waiting.true)

pub is_counted-requires : goal.is_counted-requires
is_counted-requires c = (long _ _ _ (longs (goal.at.is_counted-requires c).Else-not-are_long)).0

pub returns : goal.returns
unfolding is_card
returns c = rw (longs (goal.at.returns c).Else-not-are_long, heads (goal.at.returns c).Else-not-is_head, found c.is_waiting.ensures c.if-not-is_waiting.false) c.is_counted.ensures
