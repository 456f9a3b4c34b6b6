-- Document 01, "Rendering one block": the five bodies, and the walk over the heads.
use Rattle.std.specs.Prelude.{Bool, false, cond, List, [], ◌∷◌, ℕ, suc, negsuc, Float, Option, Some, None}
use Rattle.std.specs.Float.Ieee as Ieee
use Rattle.std.specs.Float.{fin, binary32, binary64}
use Rattle.rules.specs.declared.Event.{Event}
use Rattle.rules.specs.declared.Finished.{Finished}
use Rattle.rules.specs.declared.BlockInfos.{BlockInfos}
use Rattle.rules.specs.Numbers.{plus_zero, is_zero, is_subnormal, magnitude, later_of, end_place, filled}
use Rattle.rules.specs.Samples.{linear_sample, exponential_sample, ratio_of, is_ratio, target_sample, curve_sample, last_number}
use Rattle.rules.specs.Queue.{Waiting, alone, hold_or, filed_under, is_ramp, head_of}

-- ---- what a walk carries

-- `values` are the places filled so far; at K-rate, the block's one value. `steps` counts heads, `finished` the events consumed, `turned` the
-- exponentials that became steps.
pub record Walk : Type 0 where
  pub intrinsic : Float
  pub last : Option Finished
  pub values : List Float
  pub steps : ℕ
  pub finished : ℕ
  pub turned : ℕ

-- what a body answers: stop, with what its head has become, or go on, its head consumed
pub data Turn : Type 0 where
  stop : Walk → Waiting → Turn
  on : Walk → Turn

-- "The walk takes heads in turn, each one step"
unfoldable pub counted : Walk → Walk
counted w =
    record { intrinsic = w.intrinsic; last = w.last; values = w.values; steps = suc w.steps; finished = w.finished; turned = w.turned }

unfoldable pub with_values : List Float → Walk → Walk
with_values vs w =
    record { intrinsic = w.intrinsic; last = w.last; values = vs; steps = w.steps; finished = w.finished; turned = w.turned }

unfoldable pub with_intrinsic : Float → Walk → Walk
with_intrinsic v w =
    record { intrinsic = v; last = w.last; values = w.values; steps = w.steps; finished = w.finished; turned = w.turned }

unfoldable pub with_last : Finished → Walk → Walk
with_last l w =
    record { intrinsic = w.intrinsic; last = Some l; values = w.values; steps = w.steps; finished = w.finished; turned = w.turned }

-- an exponential ramp that became a step
unfoldable pub with_turned : Walk → Walk
with_turned w =
    record { intrinsic = w.intrinsic; last = w.last; values = w.values; steps = w.steps; finished = w.finished; turned = suc w.turned }

-- "To consume a head makes its time and value the last event, its value the intrinsic one."
unfoldable pub consumed : Float → Float → Walk → Walk
consumed t v w =
    record {
      intrinsic = v;
      last = Some (record { time = t; value = v });
      values = w.values;
      steps = w.steps;
      finished = suc w.finished;
      turned = w.turned;
    }

-- the places up to n, filled
unfoldable pub fill : BlockInfos → ℕ → (Float → Float) → Walk → Walk
fill f n sample w = with_values (filled f n sample w.values) w

-- "With no last event, one is first made from block time and intrinsic value, and kept."
unfoldable pub last_or : BlockInfos → Float → Option Finished → Finished
last_or f v None = record { time = f.time; value = v }
last_or f v (Some l) = l

unfoldable pub start_of : BlockInfos → Walk → Finished
start_of f w = last_or f w.intrinsic w.last

-- ---- step

-- "Time 0 becomes the block time."
unfoldable pub step_time : BlockInfos → Float → Float
step_time f t = cond (is_zero t) f.time t

-- v at t, t no longer 0, with x the head: "Fill up to its end place. If its time is greater than the next block time, stop; else consume it."
unfoldable pub step_from : BlockInfos → Walk → Waiting → Float → Float → Turn
step_from f w x v t =
    let rest = fill f (end_place f t) (λ s. w.intrinsic) w in
    cond (Ieee.lt f.next t) (stop rest x) (on (consumed t v rest))

unfoldable pub step_turn : BlockInfos → Walk → Float → Float → Turn
step_turn f w v t = step_from f w (alone (Event.Step v t)) v (step_time f t)

-- ---- what ramps and curves share

-- "held, with the end and the value there; else with .. event value"
unfoldable pub value_at_end : Option Float → Float → (Float → Float) → Float
value_at_end None v sample = v
value_at_end (Some c) v sample = sample c

-- x is the head, t where it ends if not held and v the value with which it then ends, sample its value at each time: "End is the hold time, else the event time. Fill
-- to the end place. End ≥ next block time: intrinsic becomes the value at next block time; stop. Otherwise consume"
unfoldable pub span_turn : BlockInfos → Walk → Waiting → Float → Float → Option Float → (Float → Float) → Turn
span_turn f w x t v h sample =
    let end = hold_or h t in
    let rest = fill f (end_place f end) sample w in
    cond
    (Ieee.le f.next end)
    (stop (with_intrinsic (sample f.next) rest) x)
    (on (consumed end (value_at_end h v sample) rest))

-- ---- ramps

-- "Duration is event time − last time."
unfoldable pub linear_turn : BlockInfos → Walk → Waiting → Float → Float → Option Float → Turn
linear_turn f w x v t h =
    let from = start_of f w in
    span_turn f (with_last from w) x t v h (linear_sample from v (Ieee.sub binary64 t from.time))

-- "If [the ratio] is not finite and above 0, the event becomes a step to its end value at the end time, and the walk goes on": with that step as its next head
unfoldable pub exponential_turn : BlockInfos → Walk → Waiting → Float → Float → Option Float → Turn
exponential_turn f w x v t h =
    let from = start_of f w in
    cond
    (is_ratio (ratio_of from v))
    (span_turn f (with_last from w) x t v h (exponential_sample from v (Ieee.sub binary64 t from.time)))
    (step_turn f (counted (with_turned (with_last from w))) v (hold_or h t))

-- ---- target

-- "If a ramp is next, it ends at the later of block time and its start ..; else at the next event's time if below next block time."
unfoldable pub end_by_next : BlockInfos → Float → Option Event → Option Float
end_by_next f t None = None
end_by_next f t (Some e) =
    cond
    (is_ramp e)
    (Some (later_of f.time t))
    (cond (Ieee.lt (filed_under e) f.next) (Some (filed_under e)) None)

-- "A hold time below next block time replaces that end."
unfoldable pub end_by_hold : BlockInfos → Option Float → Option Float → Option Float
end_by_hold f None e = e
end_by_hold f (Some c) e = cond (Ieee.lt c f.next) (Some c) e

-- "1e-10 (f32)"
abbrev pub snap_width : Float
snap_width = fin false 14411519 (negsuc 56)

-- "|target − value| < 1e-10"
unfoldable pub snaps : Float → Float → Bool
snaps target v = Ieee.lt (magnitude (Ieee.sub binary32 target v)) snap_width

-- "subnormal samples (K-rate: its value) become 0": all of the block so far, and +0 (DECISIONS, reading 3)
unfoldable pub flushed : List Float → List Float
flushed [] = []
flushed (x ∷ xs) = cond (is_subnormal x) plus_zero x ∷ flushed xs

-- ".. where the target is 0"
unfoldable pub flushed_for : Float → List Float → List Float
flushed_for target xs = cond (is_zero target) (flushed xs) xs

-- v is the value at next block time. Where it snaps, "intrinsic becomes the target, .. and the event becomes a step to the target at next block time; else
-- intrinsic becomes the value; stop either way."
unfoldable pub target_left : BlockInfos → Walk → Waiting → Float → Float → Turn
target_left f w x target v =
    cond
    (snaps target v)
    (stop (with_intrinsic target (with_values (flushed_for target w.values) w)) (alone (Event.Step target f.next)))
    (stop (with_intrinsic v w) x)

-- "Not ended: take the value at next block time" (it fills up to the end place of that time: DECISIONS, reading 1). "Ended: consume with end time and value there."
unfoldable pub target_run : BlockInfos → Walk → Waiting → Float → (Float → Float) → Option Float → Turn
target_run f w x target sample None =
    target_left f (fill f (end_place f f.next) sample w) x target (sample f.next)
target_run f w x target sample (Some end) = on (consumed end (sample end) (fill f (end_place f end) sample w))

-- "Before the start a sample is the intrinsic value."
unfoldable pub from_start : Float → Float → (Float → Float) → Float → Float
from_start start v sample t = cond (Ieee.lt t start) v (sample t)

-- "It uses the last event's value, made as for a ramp where none exists. If its start is after the next block time, fill and stop": it stops, and `ended` fills.
unfoldable pub target_turn : BlockInfos → Walk → Waiting → Float → Float → Float → Option Float → Option Event → Turn
target_turn f w x v t c h n =
    let from = start_of f w in
    cond
    (Ieee.lt f.next t)
    (stop (with_last from w) x)
    (target_run f (with_last from w) x v (from_start t w.intrinsic (target_sample from.value v t c)) (end_by_hold f h (end_by_next f t n)))

-- ---- curve

-- "Not yet started: as for the target": it stops, and `ended` fills (it makes no last event: DECISIONS, reading 12).
-- "End is the hold time, else start + duration; fill and stop as for a ramp; a finished curve's value is its last number."
unfoldable pub curve_turn : BlockInfos → Walk → Waiting → Float → Float → Option Float → Turn
curve_turn f w x s d h =
    cond
    (Ieee.lt f.next s)
    (stop w x)
    (span_turn f w x (Ieee.add binary64 s d) (last_number x.numbers) h (from_start s w.intrinsic (curve_sample x.numbers s d)))

-- ---- the walk

-- what the head x does, with n behind it
unfoldable pub turn_of : BlockInfos → Walk → Waiting → Option Event → Event → Turn
turn_of f w x n (Event.Step v t) = step_turn f w v t
turn_of f w x n (Event.Linear v t h) = linear_turn f w x v t h
turn_of f w x n (Event.Exponential v t h) = exponential_turn f w x v t h
turn_of f w x n (Event.Target v t c h) = target_turn f w x v t c h n
turn_of f w x n (Event.Curve s d k h) = curve_turn f w x s d h

-- a head, taken: "each one step"
unfoldable pub turn : BlockInfos → Walk → Waiting → Option Event → Turn
turn f w x n = turn_of f (counted w) x n x.event

-- what a walk leaves: what it carried, and the events that still wait
pub record Walked : Type 0 where
  pub walk : Walk
  pub queue : List Waiting

-- "Places left when a walk stops take the intrinsic value (ours)": the one that the stopping body left (DECISIONS, reading 4)
unfoldable pub ended : BlockInfos → Walk → List Waiting → Walked
ended f w ws = record { walk = fill f f.count (λ s. w.intrinsic) w; queue = ws }

-- after a body's answer: the rest of the queue waits, or is walked
unfoldable pub next : BlockInfos → List Waiting → (Walk → Walked) → Turn → Walked
next f xs rest (stop w x) = ended f w (x ∷ xs)
next f xs rest (on w) = rest w

-- "finding the queue empty is one step, fills with the intrinsic value and ends"
unfoldable pub walked : BlockInfos → Walk → List Waiting → Walked
walked f w [] = ended f (counted w) []
walked f w (x ∷ xs) = next f xs (λ v. walked f v xs) (turn f w x (head_of xs))
