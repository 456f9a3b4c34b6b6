-- `write` meets its contract: refused, without room, and written. Assumes nothing.
use mathlib.Core.Path.{◌≡◌, sym, ◌∙◌}
use mathlib.Core.Bool.{true}
use native.Mathlib.Omega.{arith}
use lib.Ieee.{nan}
use Rattle.words.proofs.Bytes.{are_singles}
use Rattle.param.specs.Param.{param_of}
use Rattle.card.specs.Card.{is_accepted}
use Rattle.card.proofs.Bound.{range_size}
use Rattle.card_writer.specs.Writer.{Printable}
use Rattle.card_writer.proofs.Formats.{printable}
use Rattle.card_writer.proofs.Saving.{whole_store, bytes_said, saved_not, saved_short, saved-whole}
use Rattle.card_writer.proofs.write.Goals as goal
use Rattle.card_writer.proofs.write.Goals.{After-shared_slice_known-1, Else-not-is_accepted}

-- what is known of the arguments, whatever becomes of them
floats : (c : After-shared_slice_known-1) → Printable (param_of c.args.p) c.args.store.now
floats c = printable c.args.p c.args.store.now c.well_formed.0 (are_singles _ nan c.shared_slice_known-1.given)

answered : (c : Else-not-is_accepted) → is_accepted c.judge-said.result.verdict ≡ true
answered c = sym c.is_accepted.ensures ∙ c.if-not-is_accepted.false

pub returns-then-not-is_accepted : goal.returns-then-not-is_accepted
returns-then-not-is_accepted c = record { saved = saved_not _ _ c.judge-said.ensures _ (sym c.is_accepted.ensures ∙ c.if-not-is_accepted.true); printable = floats (goal.at.returns-then-not-is_accepted c).After-shared_slice_known-1 }

pub returns-then-out-at : goal.returns-then-out-at
returns-then-out-at c = record { saved = saved_short _ _ c.judge-said.ensures (answered (goal.at.returns-then-out-at c).Else-not-is_accepted) _ c.if-out-at.true; printable = floats (goal.at.returns-then-out-at c).After-shared_slice_known-1 }

pub put_range-next-requires : goal.put_range-next-requires
put_range-next-requires c = omega (arith, bytes_said _ _ c.judge-said.ensures (answered (goal.at.put_range-next-requires c).Else-not-is_accepted))

pub put_events-at-requires : goal.put_events-at-requires
put_events-at-requires c =
    let said = c.judge-said.ensures in
    let kept = answered (goal.at.put_events-at-requires c).Else-not-is_accepted in
    (c.requires, whole_store _ _ said kept, omega (arith, bytes_said _ _ said kept, range_size c.bounds.result))

pub returns : goal.returns
returns c = record {
  saved = saved-whole _ _ c.judge-said.ensures (answered (goal.at.returns c).Else-not-is_accepted) _ c.if-out-at.false c.bounds.ensures c.put_range-next.ensures c.put_events-at.ensures;
  printable = floats (goal.at.returns c).After-shared_slice_known-1;
}
