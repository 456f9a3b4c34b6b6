-- `queue_in` meets its contract: the slots made so far hold the first i events. Assumes nothing.
use mathlib.Core.Path.{refl, ap}
use native.Mathlib.Omega.{arith}
use Rattle.timeline.specs.Timeline.{slot_of}
use Rattle.timeline.proofs.Laws.{filled_more}
use Rattle.coding.specs.Coding.{events_in}
use Rattle.coding.proofs.Words.{events_more}
use Rattle.coding.proofs.Written.{filled_empty, queues}
use Rattle.coding.proofs.queue_in.Goals as goal

pub loop-i-init : goal.loop-i-init
loop-i-init c = (omega arith, unfold events_in in filled_empty c.new-empty.ensures)

pub event_at-event-requires : goal.event_at-event-requires
event_at-event-requires c = omega arith

pub bounds-slots-i : goal.bounds-slots-i
bounds-slots-i c = omega arith

pub loop-i-preserved : goal.loop-i-preserved
loop-i-preserved c = (omega arith, filled_more c.loop-i.invariant.1 (omega arith) (ap slot_of c.event_at-event.ensures) (events_more _ c.loop-i.i))

pub returns-after-loop-i : goal.returns-after-loop-i
returns-after-loop-i c = queues _ c.loop-i.invariant.1 (omega arith) refl

pub returns-else-len-le-EVENTS : goal.returns-else-len-le-EVENTS
returns-else-len-le-EVENTS c = record { many = refl; events = λ h. absurd (omega arith) }
