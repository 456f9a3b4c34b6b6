-- `CardReader::absorb` meets its contract. Assumes nothing.
use mathlib.Core.Path.{◌≡◌, sym}
use mathlib.Core.Bool.{true}
use Prim.Native.Nat.{◌≤◌}
use native.Mathlib.Omega.{arith}
use lib.ListN.{length, take}
use Rattle.refusals.proofs.Rows.{found}
use Rattle.card.specs.Card.{is_accepted}
use Rattle.card_reader.proofs.Feeding.{feeds_nothing, inside, feeds}
use Rattle.card_reader.proofs.CardReader.absorb.Goals as goal
use Rattle.card_reader.proofs.CardReader.absorb.Goals.{After-put_word-to, Else-not-is_accepted}

kept : (c : Else-not-is_accepted) → is_accepted c.args.self.verdict ≡ true
kept c = found c.is_accepted.ensures c.if-not-is_accepted.false

-- the part stands in the window
joint : (c : After-put_word-to) → let after = c.put_word-to.new.out in (c.put_word-to.result ≤ length after) × (length (take c.put_word-to.result after) ≡ c.put_word-to.result)
joint c = inside c.requires.1 c.requires.2 c.put_word-to.ensures c.put_word-to.auto.out

pub returns-then-not-is_accepted : goal.returns-then-not-is_accepted
returns-then-not-is_accepted c =
    feeds_nothing (found c.is_accepted.ensures c.if-not-is_accepted.true) c.requires.0 c.requires.1

pub slice_bounds-take_fields-end-2 : goal.slice_bounds-take_fields-end-2
slice_bounds-take_fields-end-2 c = sym (joint (goal.at.slice_bounds-take_fields-end-2 c).After-put_word-to).1

pub take_fields-t-requires : goal.take_fields-t-requires
take_fields-t-requires c =
    (c.requires.0, kept (goal.at.take_fields-t-requires c).Else-not-is_accepted)

pub moved-requires : goal.moved-requires
moved-requires c =
    let w = (goal.at.moved-requires c).After-put_word-to in
    (omega (arith, c.take_fields-t.ensures.inside, (joint w).1), (joint w).0)

pub returns : goal.returns
returns c =
    feeds c.requires.1 c.requires.2 c.put_word-to.ensures c.put_word-to.auto.out (kept (goal.at.returns c).Else-not-is_accepted) c.take_fields-t.ensures c.moved.ensures c.moved.auto.buf
