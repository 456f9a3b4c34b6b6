-- Document 01's calls, whole: the parameter, and what each call answers, refused or not.
use Rattle.rules.specs.declared.Finished.{Finished}
use Rattle.rules.specs.declared.Refusal.{Refusal}
use Rattle.std.specs.Prelude.{Bool, true, false, cond, not, ◌&&◌, List, [], ◌∷◌, ◌++◌, ℕ, eqb, length, drop, replicate, Float, Option, Some, None, Result, Ok, Err}
use Rattle.std.specs.Float.Ieee as Ieee
use Rattle.std.specs.Float.{binary64}
use Rattle.rules.specs.declared.Event.{Event}
use Rattle.rules.specs.declared.Bounds.{Bounds}
use Rattle.rules.specs.declared.AutomationRate.{AutomationRate}
use Rattle.rules.specs.declared.AutomationRate.TheVariants as Rate
use Rattle.rules.specs.declared.Edition.{Edition}
use Rattle.rules.specs.declared.BlockInfos.{BlockInfos}
use Rattle.rules.specs.Numbers.{plus_zero, ceiling_of, taken_time, wide, fused}
use Rattle.rules.specs.Queue.{Waiting, attached, packed, events_of, head_of, filed_under, is_ramp, inserted, arrived, cancelled, value_after_cancel, held, value_after_hold, target_event}
use Rattle.rules.specs.Refusals.{lowest, making_rows, value_rows, exponential_rows, target_rows, curve_rows, cancel_rows, block_rows}
use Rattle.rules.specs.Walk.{Walk, Walked, walked}
use Rattle.rules.specs.Mix.{mixed, mixed_all, spread, inputs}

-- ---- the parameter

-- "A parameter holds minimum, default, maximum, rate (A or K), the intrinsic value .., the waiting events in order, the time of the last answered block if any,
-- and the last finished event"; "the last answered block's end, which the parameter now keeps" (02, C-12); and it "is made under one of the two editions and keeps it"
-- (02, C-19)
pub record Param : Type 0 where
  pub bounds : Bounds
  pub rate : AutomationRate
  pub edition : Edition
  pub intrinsic : Float
  pub queue : List Event
  pub last_block : Option Float
  pub last_end : Option Float
  pub last : Option Finished

-- "the intrinsic value (at first the default)"
abbrev pub fresh : Bounds → AutomationRate → Edition → Param
fresh b r e =
    record {
      bounds = b;
      rate = r;
      edition = e;
      intrinsic = b.default;
      queue = [];
      last_block = None;
      last_end = None;
      last = None;
    }

-- the edition of a number that is one's
unfoldable pub edition_of : ℕ → Edition
edition_of n = cond (eqb n 2) Edition.Second Edition.First

-- "Refusal 1 returns an empty A-rate parameter with all numbers 0"; 12 "the same empty parameter, of the first edition", and so 1 under either (reading 25 of 02)
unfoldable pub made_as : Result Unit Refusal → Bounds → AutomationRate → Edition → Param
made_as (Ok _) b r e = fresh b r e
made_as (Err why) b r e = fresh (record { min = plus_zero; default = plus_zero; max = plus_zero }) Rate.A Edition.First

-- under the edition of the number n
unfoldable pub made : Bounds → AutomationRate → ℕ → Param
made b r n = made_as (lowest (making_rows b n)) b r (edition_of n)

-- a parameter as an answered call leaves it: these events wait, and this is the intrinsic value
abbrev pub left_with : List Event → Float → Param → Param
left_with q v p =
    record {
      bounds = p.bounds;
      rate = p.rate;
      edition = p.edition;
      intrinsic = v;
      queue = q;
      last_block = p.last_block;
      last_end = p.last_end;
      last = p.last;
    }

abbrev pub with_queue : List Event → Param → Param
with_queue q p = left_with q p.intrinsic p

-- ---- scheduling and cancelling

-- what a call of these gives back
pub record Called : Type 0 where
  pub verdict : Result Unit Refusal
  pub param : Param
  pub store : List Float

-- a call that is lent the store: where it is answered these events wait and this is the intrinsic value; "Any other refusal returns the parameter unchanged"
unfoldable pub called_as : Result Unit Refusal → Param → List Float → List Waiting → Float → Called
called_as (Ok _) p store ws v =
    record { verdict = (Ok tt); param = left_with (events_of ws) v p; store = packed ws }
called_as (Err r) p store ws v = record { verdict = Err r; param = p; store = store }

-- a call that is not: the store stays as it is
unfoldable pub scheduled_as : Result Unit Refusal → Param → List Float → Event → Called
scheduled_as (Ok _) p store e = record { verdict = Ok tt; param = with_queue (arrived e p.queue) p; store = store }
scheduled_as (Err r) p store e = record { verdict = Err r; param = p; store = store }

-- what can be asked of a parameter but a block
pub data Command : Type 0 where
  set : Float → Command
  step linear exponential : Float → Float → Command
  target : Float → Float → Float → Command
  curve : Float → Float → List Float → Command
  cancel hold : Float → Command

-- "An immediate set is a step at time 0."
unfoldable pub called : Param → List Float → Command → Called
called p store (set v) = scheduled_as (lowest (value_rows p.queue v plus_zero)) p store (Event.Step v plus_zero)
called p store (step v t) = scheduled_as (lowest (value_rows p.queue v t)) p store (Event.Step v (taken_time t))
called p store (linear v t) = scheduled_as (lowest (value_rows p.queue v t)) p store (Event.Linear v (taken_time t) None)
called p store (exponential v t) =
    scheduled_as (lowest (exponential_rows p.queue v t)) p store (Event.Exponential v (taken_time t) None)
called p store (target v t c) = scheduled_as (lowest (target_rows p.queue v t c)) p store (target_event v (taken_time t) c)
called p store (curve t d xs) =
    called_as
    (lowest (curve_rows p.queue store t d xs))
    p
    store
    (inserted (record { event = Event.Curve (taken_time t) d (length xs) None; numbers = xs }) (attached p.queue store))
    p.intrinsic
called p store (cancel c) =
    let ws = attached p.queue store in
    called_as
    (lowest (cancel_rows store c))
    p
    store
    (cancelled (taken_time c) ws)
    (value_after_cancel (taken_time c) p.last_end ws p.last p.intrinsic)
called p store (hold c) =
    let ws = attached p.queue store in
    called_as
    (lowest (cancel_rows store c))
    p
    store
    (held (taken_time c) ws)
    (value_after_hold (taken_time c) p.last_end ws p.last p.intrinsic)

-- ---- the block

-- what is asked: block time, sample period, count, input and output as lent
pub record Call : Type 0 where
  pub time : Float
  pub period : Float
  pub count : ℕ
  pub input : List Float
  pub output : List Float

-- what is answered; `finished` and `turned` are the walk's counts
pub record Answer : Type 0 where
  pub verdict : Result Unit Refusal
  pub param : Param
  pub store : List Float
  pub output : List Float
  pub steps : ℕ
  pub current : Float
  pub one_valued : Bool
  pub finished : ℕ
  pub turned : ℕ

-- "Next block time is the fused result of count × period + block time (ours)."
unfoldable pub infos_of : AutomationRate → Call → BlockInfos
infos_of r c =
    record {
      time = taken_time c.time;
      dt = c.period;
      next = fused binary64 (wide c.count) c.period (taken_time c.time);
      count = c.count;
      rate = r;
    }

-- "If the queue is empty, or the head is no ramp and its time is greater than the next block time, the block is one-valued"
unfoldable pub rests_for : BlockInfos → Option Event → Bool
rests_for f None = true
rests_for f (Some e) = not (is_ramp e) && Ieee.lt f.next (filed_under e)

-- a walk before its first head, with these values and so many steps behind it
abbrev pub walk_from : Float → Option Finished → List Float → ℕ → Walk
walk_from v l vs n = record { intrinsic = v; last = l; values = vs; steps = n; finished = 0; turned = 0 }

-- "at K-rate the block's value is the intrinsic value before the walk"
unfoldable pub values_before : AutomationRate → Float → List Float
values_before Rate.A v = []
values_before Rate.K v = v ∷ []

-- a one-valued block: "the intrinsic value, one step (ours)"; and any other
unfoldable pub rendered_as : Bool → BlockInfos → Float → Option Finished → List Waiting → Walked
rendered_as true f v l ws = record { walk = walk_from v l (replicate f.count v) 1; queue = ws }
rendered_as false f v l ws = walked f (walk_from v l (values_before f.rate v) 0) ws

-- by the intrinsic value v, the last event l and the waiting events ws alone
unfoldable pub rendered : BlockInfos → Float → Option Finished → List Waiting → Walked
rendered f v l ws = rendered_as (rests_for f (head_of ws)) f v l ws

unfoldable pub is_silent : List Float → Bool
is_silent [] = true
is_silent (x ∷ xs) = false

-- "The answer says one-valued for K-rate, and for a one-valued block with silence"
unfoldable pub says_one : AutomationRate → Bool → List Float → Bool
says_one Rate.A rests input = rests && is_silent input
says_one Rate.K rests input = true

-- the samples, then what the output held behind them
unfoldable pub output_of : Bounds → BlockInfos → Call → List Float → List Float
output_of b f c vs = mixed_all b (inputs f.rate c.count c.input) (spread f.rate c.count vs) ++ drop c.count c.output

-- The answer over the waiting events ws. "The current value reported is the intrinsic value before the block, put through the mix with silence (ours)." The block's end
-- is its next block time (reading 13 of 02).
unfoldable pub answer_of : Param → List Waiting → Call → Walked → Answer
answer_of p ws c done =
    let f = infos_of p.rate c in
    record {
      verdict = Ok tt;
      param =
          record {
            bounds = p.bounds;
            rate = p.rate;
            edition = p.edition;
            intrinsic = done.walk.intrinsic;
            queue = events_of done.queue;
            last_block = Some f.time;
            last_end = Some f.next;
            last = done.walk.last;
          };
      store = packed done.queue;
      output = output_of p.bounds f c done.walk.values;
      steps = done.walk.steps;
      current = mixed p.bounds plus_zero p.intrinsic;
      one_valued = says_one p.rate (rests_for f (head_of ws)) c.input;
      finished = done.walk.finished;
      turned = done.walk.turned;
    }

-- "Any other refusal returns the parameter unchanged, with 0 steps, current value 0, not one-valued, and touches neither output nor curve store."
unfoldable pub answered_as : Result Unit Refusal → Param → List Float → Call → Answer
answered_as (Ok _) p store c =
    let ws = attached p.queue store in
    answer_of p ws c (rendered (infos_of p.rate c) p.intrinsic p.last ws)
answered_as (Err r) p store c =
    record {
      verdict = Err r;
      param = p;
      store = store;
      output = c.output;
      steps = 0;
      current = plus_zero;
      one_valued = false;
      finished = 0;
      turned = 0;
    }

unfoldable pub verdict_of : Param → List Float → Call → Result Unit Refusal
verdict_of p store c = lowest (block_rows (ceiling_of p.edition) p.last_block store c.time c.period c.count c.input c.output)

unfoldable pub answered : Param → List Float → Call → Answer
answered p store c = answered_as (verdict_of p store c) p store c
