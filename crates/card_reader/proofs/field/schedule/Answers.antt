-- `field::schedule` meets its contract: each tag's call. Assumes nothing.
use Prim.Native.Nat.{◌≤◌}
use native.Mathlib.Omega.{arith}
use lib.ListN.{length}
use Rattle.card.specs.Card.{tag_of}
use Rattle.card.proofs.Fields.{room, target_room}
use Rattle.card_reader.proofs.Events.{target_tag}
use Rattle.card_reader.proofs.Called.{does_step, does_linear, does_exponential, does_target}
use Rattle.card_reader.proofs.field.schedule.Goals as goal
use Rattle.card_reader.proofs.field.schedule.Goals.{Start}

long : (s : Start) → 15 ≤ length s.args.bytes.now
long s = room s.args.bytes.now s.requires.1.whole s.requires.1.right

pub bounds-bytes-0 : goal.bounds-bytes-0
bounds-bytes-0 c = omega (arith, long (goal.at.bounds-bytes-0 c).Start)

pub schedule_curve-requires : goal.schedule_curve-requires
unfolding tag_of
schedule_curve-requires c = (c.requires.0, c.requires.1, c.if-tag-eq5.true)

pub real_at-value-requires : goal.real_at-value-requires
real_at-value-requires c = omega (arith, long (goal.at.real_at-value-requires c).Start)

pub real_at-time-requires : goal.real_at-time-requires
real_at-time-requires c = long (goal.at.real_at-time-requires c).Start

pub real_at-requires : goal.real_at-requires
unfolding tag_of
real_at-requires c =
    target_room c.args.bytes.now c.requires.1.whole c.requires.1.right
    (target_tag c.args.bytes.now c.requires.1.tag c.requires.2 c.if-tag-eq5.false (λ e. omega (arith, e)) (λ e. omega (arith, e)) (λ e. omega (arith, e)))

pub returns-in-1 : goal.returns-in-1
unfolding tag_of
returns-in-1 c =
    does_step c.args.bytes.now c.real_at-value.ensures c.real_at-time.ensures c.in-1.is c.set_value_at_time.ensures

pub returns-in-2 : goal.returns-in-2
unfolding tag_of
returns-in-2 c =
    does_linear c.args.bytes.now c.real_at-value.ensures c.real_at-time.ensures c.in-2.is c.linear_ramp_to_value_at_time.ensures

pub returns-in-3 : goal.returns-in-3
unfolding tag_of
returns-in-3 c =
    does_exponential c.args.bytes.now c.real_at-value.ensures c.real_at-time.ensures c.in-3.is c.exponential_ramp_to_value_at_time.ensures

pub returns-in_default : goal.returns-in_default
unfolding tag_of
returns-in_default c =
    does_target c.args.bytes.now c.real_at-value.ensures c.real_at-time.ensures c.real_at.ensures
    (target_tag c.args.bytes.now c.requires.1.tag c.requires.2 c.if-tag-eq5.false (λ e. omega (arith, e)) (λ e. omega (arith, e)) (λ e. omega (arith, e)))
    c.set_target_at_time.ensures
