-- How the code's walk stands for the rules': the filled places of the block are the walk's values.
use Rattle.std.specs.Prelude.{◌≡◌, List, ℕ, ◌+◌, ◌≤◌, ◌<◌, ◌^◌, length, take, cond, Float, Option, Some, None}
use Rattle.std.specs.Float.Ieee as Ieee
use Rattle.std.specs.Option.{option_map_or}
use Rattle.rules.specs.declared.Event.{Event}
use Rattle.rules.specs.declared.BlockInfos.{BlockInfos}
use Rattle.rules.specs.declared.Finished.{Finished}
use Rattle.rules.specs.Walk as Rules
use Rattle.rules.specs.Walk.{stop, on}
use Rattle.timeline.specs.Heads.{waiting_as}
use Rattle.automation.specs.declared.Walk.{Walk}
use Rattle.automation.specs.declared.Turn.{Turn}

-- the rules' walk that a walk with the buffer b stands for
abbrev pub walk_as : Walk → List Float → Rules.Walk
walk_as w b =
    record {
      intrinsic = w.intrinsic;
      last = w.last;
      values = take w.filled b;
      steps = w.steps;
      finished = w.finished;
      turned = w.turned;
    }

-- a body's answer, with the numbers that its head still has
unfoldable pub turn_as : Walk → List Float → Option Event → List Float → Rules.Turn
turn_as w b (Some e) numbers = stop (walk_as w b) (waiting_as e numbers)
turn_as w b None numbers = on (walk_as w b)

-- What a body may lean on: the buffer has room for the places filled and for the block, and is no longer than a place's time can be worked out for; the count
-- of events consumed is not near its end.
pub record Ready (f : BlockInfos) (w : Walk) (b : List Float) : Type 0 where
  pub filled : w.filled ≤ length b
  pub room : f.count ≤ length b
  pub most : length b ≤ 1024
  pub finished : w.finished < 2 ^ 32

-- what a body gives: the rules' turn t, in a buffer c that is as long as b was
pub record Turns (b numbers : List Float) (t : Rules.Turn) (r : Turn) (c : List Float) : Type 0 where
  pub turn : turn_as r.walk c r.left numbers ≡ t
  pub filled : r.walk.filled ≤ length c
  pub whole : length c ≡ length b

abbrev pub stopped_with : Walk → Event → Turn
stopped_with w e = record { walk = w; left = Some e }

abbrev pub went_on_with : Walk → Turn
went_on_with w = record { walk = w; left = None }

-- ---- a walk with one thing changed

abbrev pub with_filled : ℕ → Walk → Walk
with_filled n w =
    record { intrinsic = w.intrinsic; last = w.last; filled = n; steps = w.steps; finished = w.finished; turned = w.turned }

abbrev pub with_intrinsic : Float → Walk → Walk
with_intrinsic v w =
    record { intrinsic = v; last = w.last; filled = w.filled; steps = w.steps; finished = w.finished; turned = w.turned }

abbrev pub with_last : Finished → Walk → Walk
with_last l w =
    record { intrinsic = w.intrinsic; last = Some l; filled = w.filled; steps = w.steps; finished = w.finished; turned = w.turned }

-- one head more
abbrev pub counted_once : Walk → Walk
counted_once w =
    record { intrinsic = w.intrinsic; last = w.last; filled = w.filled; steps = w.steps + 1; finished = w.finished; turned = w.turned }

-- an exponential that became a step, which is one head more
abbrev pub turned_to_step : Walk → Walk
turned_to_step w =
    record { intrinsic = w.intrinsic; last = w.last; filled = w.filled; steps = w.steps + 1; finished = w.finished; turned = w.turned + 1 }

-- the head consumed, its end t with the value v
abbrev pub consumed_with : Float → Float → Walk → Walk
consumed_with t v w =
    record {
      intrinsic = v;
      last = Some (record { time = t; value = v });
      filled = w.filled;
      steps = w.steps;
      finished = w.finished + 1;
      turned = w.turned;
    }

-- a ramp or a curve at its end, in the walk w behind its fill: v is its own value, the sample what it has at a time
abbrev pub ended_at : BlockInfos → Walk → Event → Float → Option Float → Float → (Float → Float) → Turn
ended_at f w e end h v sample =
    cond
    (Ieee.le f.next end)
    (stopped_with (with_intrinsic (sample f.next) w) e)
    (went_on_with (consumed_with end (option_map_or (λ (t : Float). sample end) h v) w))
