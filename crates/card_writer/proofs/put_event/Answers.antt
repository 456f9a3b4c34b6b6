-- `put_event` meets its contract, kind by kind. Assumes nothing.
use native.Mathlib.Omega.{arith}
use Rattle.words.specs.Words.{bytes_of, single_bytes, double_bytes}
use Rattle.words.proofs.Bytes.{length-numbers}
use Rattle.card.specs.Card.{event_field}
use Rattle.card_writer.proofs.put_event.Goals as goal

pub put_value-requires : goal.put_value-requires
unfolding event_field single_bytes double_bytes bytes_of
put_value-requires c = let room = rw c.in-Step.is at c.requires in omega arith

pub put_value-requires-in-Linear : goal.put_value-requires-in-Linear
unfolding event_field single_bytes double_bytes bytes_of
put_value-requires-in-Linear c = let room = rw c.in-Linear.is at c.requires in omega arith

pub put_value-requires-in-Exponential : goal.put_value-requires-in-Exponential
unfolding event_field single_bytes double_bytes bytes_of
put_value-requires-in-Exponential c = let room = rw c.in-Exponential.is at c.requires in omega arith

pub put_target-requires : goal.put_target-requires
unfolding event_field single_bytes double_bytes bytes_of
put_target-requires c = let room = rw c.in-Target.is at c.requires in omega arith

pub put_curve-requires : goal.put_curve-requires
unfolding event_field single_bytes double_bytes bytes_of
put_curve-requires c = let room = rw c.in-Curve.is at c.requires in omega (arith, room, length-numbers c.args.numbers.now)

pub returns-in-Step : goal.returns-in-Step
unfolding event_field
returns-in-Step c = rw c.in-Step.is c.put_value.ensures

pub returns-in-Linear : goal.returns-in-Linear
unfolding event_field
returns-in-Linear c = rw c.in-Linear.is c.put_value-in-Linear.ensures

pub returns-in-Exponential : goal.returns-in-Exponential
unfolding event_field
returns-in-Exponential c = rw c.in-Exponential.is c.put_value-in-Exponential.ensures

pub returns-in-Target : goal.returns-in-Target
unfolding event_field
returns-in-Target c = rw c.in-Target.is c.put_target.ensures

pub returns-in-Curve : goal.returns-in-Curve
unfolding event_field
returns-in-Curve c = rw c.in-Curve.is c.put_curve.ensures
