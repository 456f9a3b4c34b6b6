-- The part of a curve store that is one parameter's, and what a call leaves of it and of the queue.
use Rattle.std.specs.Prelude.{◌≡◌, List, ◌++◌, ℕ, ◌-◌, length, drop, replicate, Float, None}
use Rattle.std.proofs.Math.Seq.{paste}
use Rattle.rules.specs.declared.Event.TheVariants as Event
use Rattle.rules.specs.Numbers.{plus_zero}
use Rattle.rules.specs.Queue.{Waiting, events_of, numbers_of}
use Rattle.timeline.specs.declared.AudioParamEventTimeline.{AudioParamEventTimeline}
use Rattle.timeline.specs.Timeline.{made}

-- the n numbers from place `from` on, copied to place `to`, as they were
abbrev pub moved : List Float → ℕ → ℕ → ℕ → List Float
moved xs from to n = paste xs to (drop from xs) n

-- A part of n numbers that holds the numbers of these "end to end in queue order, then zeros": `packed`, where the part is the whole store.
unfoldable pub packed_in : ℕ → List Waiting → List Float
packed_in n ws = numbers_of ws ++ replicate (n - length (numbers_of ws)) plus_zero

-- these events wait in the queue that a call gives back, and their numbers are packed in the part that it was lent
pub record Leaves (q : AudioParamEventTimeline) (before after : List Float) (ws : List Waiting) : Type 0 where
  pub queue : q ≡ made (events_of ws)
  pub part : after ≡ packed_in (length before) ws

-- a new curve with its numbers
abbrev pub curve_of : Float → Float → List Float → Waiting
curve_of start duration xs = record { event = Event.Curve start duration (length xs) None; numbers = xs }
