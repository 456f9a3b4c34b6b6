-- What a look sees of the rules' walk: of all its values one, that of its place. No body of the rules looks at the values, so that each of their turns is seen as one.
use Rattle.std.specs.Prelude.{◌≡◌, Bool, cond, List, ℕ, zero, suc, ◌+◌, ◌≤◌, leb, length, drop, get_or, Float, Option, Some, Ok}
use Rattle.std.specs.Float.Ieee as Ieee
use Rattle.std.specs.Float.{binary64}
use Rattle.rules.specs.declared.AutomationRate.{AutomationRate}
use Rattle.rules.specs.declared.AutomationRate.TheVariants as Rate
use Rattle.rules.specs.declared.BlockInfos.{BlockInfos}
use Rattle.rules.specs.declared.Event.{Event}
use Rattle.rules.specs.declared.Finished.{Finished}
use Rattle.rules.specs.Numbers.{plus_zero, store_length, end_place}
use Rattle.rules.specs.Samples.{linear_sample, exponential_sample, target_sample, curve_sample}
use Rattle.rules.specs.Queue.{Waiting, filed_under, lengths_of, attached}
use Rattle.rules.specs.Mix.{mixed_all, spread, inputs}
use Rattle.rules.specs.Walk as rule
use Rattle.rules.specs.Walk.{from_start, last_or, start_of, target_run, walked}
use Rattle.rules.specs.Block.{Call, infos_of, walk_from, values_before, rendered, verdict_of}
use Rattle.timeline.specs.Heads.{with_head}
use Rattle.block.specs.Asked.{written}
use Rattle.param.specs.declared.AudioParam.{AudioParam}
use Rattle.param.specs.declared.Processed.{Processed}
use Rattle.param.specs.Param.{param_of, SoundParam}
use Rattle.param.specs.Processed.{Processes}
use Rattle.plain.specs.declared.Look.{Look}
use Rattle.plain.specs.declared.Looked.{Looked}
use Rattle.plain.specs.declared.Turn.{Turn}

-- ---- a walk of the block f, as a look for place n has it

-- at K-rate "the walk writes no samples": for a look all places are filled
unfoldable pub filled_of : AutomationRate → ℕ → ℕ → ℕ
filled_of Rate.A count n = n
filled_of Rate.K count n = count

-- the value is +0 until the place is filled
unfoldable pub seen : BlockInfos → ℕ → rule.Walk → Look
seen f n w =
    record {
      infos = f;
      place = n;
      found = get_or w.values n plus_zero;
      filled = filled_of f.rate f.count (length w.values);
      intrinsic = w.intrinsic;
      last = w.last;
      steps = w.steps;
    }

unfoldable pub seen_turn : BlockInfos → ℕ → rule.Turn → Turn
seen_turn f n (rule.stop w x) = Turn.Stop (seen f n w) x.event
seen_turn f n (rule.on w) = Turn.On (seen f n w)

-- ---- how the value of a head goes with time

-- the rules' sample of an event, by the event that it starts from, the intrinsic value before it, and its numbers
unfoldable pub sample_from : Event → List Float → Finished → Float → Float → Float
sample_from (Event.Step v t) xs from before = λ s. before
sample_from (Event.Linear v t h) xs from before = linear_sample from v (Ieee.sub binary64 t from.time)
sample_from (Event.Exponential v t h) xs from before = exponential_sample from v (Ieee.sub binary64 t from.time)
sample_from (Event.Target v t c h) xs from before = from_start t before (target_sample from.value v t c)
sample_from (Event.Curve s d k h) xs from before = from_start s before (curve_sample xs s d)

-- by a walk, and by a look
abbrev pub sample_of : Event → List Float → BlockInfos → rule.Walk → Float → Float
sample_of e xs f w = sample_from e xs (start_of f w) w.intrinsic

abbrev pub sample_seen : Event → List Float → Look → Float → Float
sample_seen e xs l = sample_from e xs (last_or l.infos l.intrinsic l.last) l.intrinsic

-- the numbers are a curve's, where the event is one
abbrev pub Follows : Event → List Float → Type 0
Follows (Event.Step v t) xs = Unit {0}
Follows (Event.Linear v t h) xs = Unit {0}
Follows (Event.Exponential v t h) xs = Unit {0}
Follows (Event.Target v t c h) xs = Unit {0}
Follows (Event.Curve s d k h) xs = (2 ≤ length xs) × (length xs ≤ store_length)

-- k periods behind the time t: "each next one adds the period"
unfoldable pub time_after : Float → ℕ → Float → Float
time_after period zero t = t
time_after period (suc k) t = time_after period k (Ieee.add binary64 t period)

-- ---- what the five bodies share

-- the head x is filled to its end place, and stops with its value at the next block time, or is consumed with this value
unfoldable pub ran : BlockInfos → rule.Walk → Waiting → Float → Bool → Float → (Float → Float) → rule.Turn
ran f w x end stops value sample =
    let rest = rule.fill f (end_place f end) sample w in
    cond stops (rule.stop (rule.with_intrinsic (sample f.next) rest) x) (rule.on (rule.consumed end value rest))

-- the rules' turn of a target that has its last event, and ends at `end` if it does in the block
unfoldable pub begun_turn : BlockInfos → rule.Walk → Waiting → Float → Option Float → (Float → Float) → rule.Turn
begun_turn f w x target end sample = cond (Ieee.lt f.next (filed_under x.event)) (rule.stop w x) (target_run f w x target sample end)

-- ---- a look

-- the rules' walk before its first head
abbrev pub unwalked : Look → rule.Walk
unwalked l = walk_from l.intrinsic l.last (values_before l.infos.rate l.intrinsic) 0

-- "each one step"
abbrev pub counted_as : Look → Look
counted_as l =
    record { infos = l.infos; place = l.place; found = l.found; filled = l.filled; intrinsic = l.intrinsic; last = l.last; steps = l.steps + 1 }

-- "With no last event, one is first made from block time and intrinsic value, and kept."
abbrev pub started_as : Look → Look
started_as l =
    record {
      infos = l.infos;
      place = l.place;
      found = l.found;
      filled = l.filled;
      intrinsic = l.intrinsic;
      last = Some (last_or l.infos l.intrinsic l.last);
      steps = l.steps;
    }

-- "Places left when a walk stops take the intrinsic value"
abbrev pub ended_as : Look → ℕ → Option Event → Looked
ended_as l at head =
    record {
      look =
          record {
            infos = l.infos;
            place = l.place;
            found = cond (leb l.filled l.place) l.intrinsic l.found;
            filled = l.filled;
            intrinsic = l.intrinsic;
            last = l.last;
            steps = l.steps;
          };
      at = at;
      head = head;
    }

-- what a look for place n has at its end, of a block of the waiting events ws that the rules leave as `done`
pub record Finds (n : ℕ) (done : rule.Walked) (ws : List Waiting) (r : Looked) : Type 0 where
  pub place : r.look.place ≡ n
  pub found : r.look.found ≡ get_or done.walk.values n plus_zero
  pub intrinsic : r.look.intrinsic ≡ done.walk.intrinsic
  pub last : r.look.last ≡ done.walk.last
  pub steps : r.look.steps ≡ done.walk.steps
  pub queue : with_head r.head (drop r.at ws) ≡ done.queue

-- a walk from w on, of the events es with their numbers in the store
abbrev pub Walks : BlockInfos → ℕ → rule.Walk → List Event → List Float → Looked → Type 0
Walks f n w es store r = Finds n (walked f w (attached es store)) (attached es store) r

-- the rules' block of a parameter, its events' numbers in the store
abbrev pub block_of : AudioParam → BlockInfos → List Float → rule.Walked
block_of p f store = rendered f (param_of p).intrinsic (param_of p).last (attached (param_of p).queue store)

-- its values, mixed with the input
abbrev pub samples_of : AudioParam → BlockInfos → List Float → List Float → List Float
samples_of p f input store =
    mixed_all (param_of p).bounds (inputs f.rate f.count input) (spread f.rate f.count (block_of p f store).walk.values)

-- the place that a look is for: the one asked for at A-rate, the first at K-rate
abbrev pub place_for : AutomationRate → ℕ → ℕ
place_for Rate.A n = n
place_for Rate.K n = 0

-- what a look at a parameter leans on: its numbers are in the store, and the count is one that a place's time can be worked out for
pub record Lookable (p : AudioParam) (f : BlockInfos) (store : List Float) : Type 0 where
  pub param : SoundParam p
  pub some : 1 ≤ f.count
  pub few : f.count ≤ 1024
  pub room : lengths_of (param_of p).queue ≤ length store

abbrev pub Looks : AudioParam → BlockInfos → List Float → ℕ → Looked → Type 0
Looks p f store place r = Finds (place_for f.rate place) (block_of p f store) (attached (param_of p).queue store) r

-- of every answered block with these infos, and an input of n numbers: with its samples written, all else is as the rules have it
abbrev pub Carries : AudioParam → BlockInfos → ℕ → List Float → Processed → List Float → Type 0
Carries p f n store r after =
    (c : Call) → f ≡ infos_of (param_of p).rate c → verdict_of (param_of p) store c ≡ Ok tt → length c.input ≡ n → (out : List Float)
    → out ≡ written (param_of p).bounds f c.input (block_of p f store).walk.values c.output → Processes p store c r out after
