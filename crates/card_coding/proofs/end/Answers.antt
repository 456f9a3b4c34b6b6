-- `end` meets its contract. Assumes nothing.
use mathlib.Core.Path.{◌≡◌, refl}
use mathlib.Core.Bool.{true}
use native.Mathlib.Omega.{arith}
use Rattle.refusals.proofs.Rows.{found}
use Rattle.card_coding.specs.Array.{is_card}
use Rattle.card_coding.proofs.Kept.{passes, number_small, state_good, reader_sound, window_sound}
use Rattle.card_coding.proofs.Ended.{ends_no_card, ends_no_state, ends_no_store, ends_refused, ends_kept, ends_left}
use Rattle.card_coding.proofs.end.Goals as goal
use Rattle.card_coding.proofs.end.Goals.{Else-not-is_card, then-not-is_card-via-then-not-is_card, then-not-is_card-via-else-not-is_card+then-state-ne-LENGTH}

good : (c : Else-not-is_card) → is_card c.args.card.now c.args.numbers.now c.args.window.now ≡ true
good c = found c.is_card.ensures c.if-not-is_card.false

pub returns-then-not-is_card : goal.returns-then-not-is_card
returns-then-not-is_card c =
    elim c.then-not-is_card.branch [
      | then-not-is_card-via-then-not-is_card w ↦ ends_no_card _ _ _ _ refl (found c.is_card.ensures w.if-not-is_card.true)
      | then-not-is_card-via-else-not-is_card+then-state-ne-LENGTH w ↦ ends_no_state _ _ _ _ refl w.if-state-ne-LENGTH.true
    ]

pub returns-then-store-ne-STORE : goal.returns-then-store-ne-STORE
returns-then-store-ne-STORE c = ends_no_store _ _ _ _ (good (goal.at.returns-then-store-ne-STORE c).Else-not-is_card) c.if-state-ne-LENGTH.false c.if-store-ne-STORE.true

pub bounds-card-1 : goal.bounds-card-1
bounds-card-1 c = omega (arith, (passes _ _ _ (good (goal.at.bounds-card-1 c).Else-not-is_card)).card_long)

pub bounds-card-2 : goal.bounds-card-2
bounds-card-2 c = omega (arith, (passes _ _ _ (good (goal.at.bounds-card-2 c).Else-not-is_card)).card_long)

pub bounds-card-1-then-card-ne0 : goal.bounds-card-1-then-card-ne0
bounds-card-1-then-card-ne0 c = omega (arith, (passes _ _ _ (good (goal.at.bounds-card-1-then-card-ne0 c).Else-not-is_card)).card_long)

pub overflow_cast-result : goal.overflow_cast-result
overflow_cast-result c = omega (arith, number_small _ (passes _ _ _ (good (goal.at.overflow_cast-result c).Else-not-is_card)).head)

pub returns-then-card-ne0 : goal.returns-then-card-ne0
returns-then-card-ne0 c = ends_refused _ _ _ _ (good (goal.at.returns-then-card-ne0 c).Else-not-is_card) c.if-state-ne-LENGTH.false c.if-store-ne-STORE.false c.if-card-ne0.true

pub reader_in-r-requires : goal.reader_in-r-requires
reader_in-r-requires c = let g = passes _ _ _ (good (goal.at.reader_in-r-requires c).Else-not-is_card) in (g.card_long, state_good _ g.counts)

pub finish-l-requires : goal.finish-l-requires
finish-l-requires c =
    let g = passes _ _ _ (good (goal.at.finish-l-requires c).Else-not-is_card) in
    let z = c.if-card-ne0.false in
    let x = c.reader_in-r.ensures in
    (reader_sound g z x, window_sound g z x, x.sound)

pub returns-then-is_accepted : goal.returns-then-is_accepted
returns-then-is_accepted c =
    ends_kept _ _ _ _ (good (goal.at.returns-then-is_accepted c).Else-not-is_card) c.if-state-ne-LENGTH.false c.if-store-ne-STORE.false c.if-card-ne0.false c.reader_in-r.ensures c.finish-l.ensures c.verdict_number-number.ensures (found c.is_accepted.ensures c.if-is_accepted.true) c.encode.ensures

pub returns-else-is_accepted : goal.returns-else-is_accepted
returns-else-is_accepted c =
    ends_left _ _ _ _ (good (goal.at.returns-else-is_accepted c).Else-not-is_card) c.if-state-ne-LENGTH.false c.if-store-ne-STORE.false c.if-card-ne0.false c.reader_in-r.ensures c.finish-l.ensures c.verdict_number-number.ensures (found c.is_accepted.ensures c.if-is_accepted.false)
