-- `judge_events` meets its contract: at each turn the events before the place are looked at. Assumes nothing.
use mathlib.Core.Path.{◌≡◌}
use Prim.Native.Nat.{◌≤◌}
use lib.ListN.{take}
use Rattle.rules.specs.Queue.{lengths_of, attached}
use Rattle.timeline.specs.Timeline.{waiting}
use Rattle.card_writer.proofs.Judging.{Looked}
use Rattle.card_writer.proofs.judge_events.Given as goal

abbrev pub invariant-loop-i : goal.invariant-loop-i
invariant-loop-i l = (l.i ≤ l.n) × (l.from ≡ lengths_of (take l.i (waiting l.q))) × Looked (attached (waiting l.q) l.store) l.many l.i
