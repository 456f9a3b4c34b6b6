-- `CardReader::event_turn` meets its contract. Assumes nothing.
use mathlib.Core.Path.{◌≡◌, sym, ◌∙◌}
use mathlib.Core.Bool.{false}
use native.Mathlib.Omega.{arith}
use Rattle.refusals.proofs.Rows.{found}
use Rattle.param.proofs.Settled.{refused_same}
use Rattle.card.specs.Card.{event_in, is_out_of_turn}
use Rattle.card.proofs.Fields.{whole_parts}
use Rattle.card_reader.proofs.Does.{event_out, event_refused, counted, refuses, does_event}
use Rattle.card_reader.proofs.CardReader.event_turn.Goals as goal
use Rattle.card_reader.proofs.CardReader.event_turn.Goals.{Else-is_out_of_turn}

-- the event is in turn
due : (c : Else-is_out_of_turn) → is_out_of_turn c.args.self.before (event_in c.args.bytes.now) ≡ false
due c = found c.is_out_of_turn.ensures c.if-is_out_of_turn.false

pub returns-then-is_out_of_turn : goal.returns-then-is_out_of_turn
returns-then-is_out_of_turn c =
    refuses c.requires.0 (event_out _ _ c.requires.2 (found c.is_out_of_turn.ensures c.if-is_out_of_turn.true)) c.refused.ensures

pub field_length-requires : goal.field_length-requires
field_length-requires c =
    (whole_parts c.args.bytes.now c.requires.1.whole).0

pub kept-requires : goal.kept-requires
kept-requires c =
    omega (arith, counted c.requires.0 c.requires.3, c.field_length.ensures.1)

pub returns-in-Ok : goal.returns-in-Ok
returns-in-Ok c =
    let e = (goal.at.returns-in-Ok c).Else-is_out_of_turn in
    does_event c.args.bytes.now c.requires.0 c.field_length.ensures c.requires.3 c.requires.2 (due e) c.schedule-called.ensures c.schedule-called.auto.store c.in-Ok.is c.time_in.ensures
    c.kept.ensures

pub returns-in-Err : goal.returns-in-Err
returns-in-Err c =
    let e = (goal.at.returns-in-Err c).Else-is_out_of_turn in
    let answer = c.schedule-called.ensures in
    rw (refused_same c.requires.0.param answer c.in-Err.is).1
    (refuses c.requires.0 (event_refused _ _ c.requires.2 (due e) (sym answer.verdict ∙ c.in-Err.is)) c.refused-in-Err.ensures)
