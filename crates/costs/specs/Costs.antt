-- 02, C-20: "What a session can cost. The firmware lead sizes the processor by heads walked. Take any sequence of calls on a fresh parameter."
use Rattle.rules.specs.declared.Refusal.{Refusal}
use Rattle.std.specs.Prelude.{◌≡◌, List, [], ◌∷◌, ℕ, ◌+◌, ◌-◌, ◌*◌, ◌≤◌, length, take, Float, Result, Ok, Err}
use Rattle.rules.specs.declared.Bounds.{Bounds}
use Rattle.rules.specs.declared.AutomationRate.{AutomationRate}
use Rattle.rules.specs.Block.{Param, made, Command, set, step, linear, exponential, target, curve, cancel, hold, Called, called, Call, Answer, answered}
use Rattle.costs.specs.declared.Totals.{Totals}

-- ---- a session

-- a call, and the store that it is lent: any
pub data Asked : Type 0 where
  command : List Float → Command → Asked
  block : List Float → Call → Asked

-- the parameter behind it
unfoldable pub left : Param → Asked → Param
left p (command store c) = (called p store c).param
left p (block store c) = (answered p store c).param

unfoldable pub left_by_all : Param → List Asked → Param
left_by_all p [] = p
left_by_all p (a ∷ calls) = left_by_all (left p a) calls

-- "still waiting"
abbrev pub waiting_in : Param → ℕ
waiting_in p = length p.queue

-- ---- what a call costs

abbrev pub nothing : Totals
nothing = record { steps = 0; blocks = 0; stored = 0; finished = 0; cancelled = 0; turned = 0 }

-- "Refused calls count nowhere."
unfoldable pub once_answered : Result Unit Refusal → ℕ
once_answered (Ok _) = 1
once_answered (Err r) = 0

-- a call that schedules: "Events stored"
unfoldable pub storing : Result Unit Refusal → Totals
storing v = record { steps = 0; blocks = 0; stored = once_answered v; finished = 0; cancelled = 0; turned = 0 }

-- "Events cancelled are counted from the queue before and after each cancel"
unfoldable pub cancelling : Param → Param → Totals
cancelling before after =
    record { steps = 0; blocks = 0; stored = 0; finished = 0; cancelled = waiting_in before - waiting_in after; turned = 0 }

-- r is what the call gives. Events go "by a cancel or a cancel-and-hold" (reading 27 of 02).
unfoldable pub command_cost : Param → Called → Command → Totals
command_cost p r (set v) = storing r.verdict
command_cost p r (step v t) = storing r.verdict
command_cost p r (linear v t) = storing r.verdict
command_cost p r (exponential v t) = storing r.verdict
command_cost p r (target v t c) = storing r.verdict
command_cost p r (curve t d xs) = storing r.verdict
command_cost p r (cancel c) = cancelling p r.param
command_cost p r (hold c) = cancelling p r.param

-- "The steps reported", "the answered blocks", "the events finished by the walk", "the exponentials that the walk turned into steps": "from the rules of the walk"
unfoldable pub block_cost : Answer → Totals
block_cost a =
    record {
      steps = a.steps;
      blocks = once_answered a.verdict;
      stored = 0;
      finished = a.finished;
      cancelled = 0;
      turned = a.turned;
    }

unfoldable pub cost_of : Param → Asked → Totals
cost_of p (command store c) = command_cost p (called p store c) c
cost_of p (block store c) = block_cost (answered p store c)

-- ---- and all of them

-- "added up"
unfoldable pub plus : Totals → Totals → Totals
plus t u =
    record {
      steps = t.steps + u.steps;
      blocks = t.blocks + u.blocks;
      stored = t.stored + u.stored;
      finished = t.finished + u.finished;
      cancelled = t.cancelled + u.cancelled;
      turned = t.turned + u.turned;
    }

unfoldable pub totals : Param → List Asked → Totals
totals p [] = nothing
totals p (a ∷ calls) = plus (cost_of p a) (totals (left p a) calls)

-- ---- what is claimed of a session's totals, so many events waiting behind it

-- "at most twice the events stored plus the answered blocks"
unfoldable pub most_steps : Totals → ℕ
most_steps t = 2 * t.stored + t.blocks

pub record Sums (t : Totals) (waiting : ℕ) : Type 0 where
  -- "equal the answered blocks, plus the events finished by the walk, plus the exponentials that the walk turned into steps"
  pub steps : t.steps ≡ t.blocks + t.finished + t.turned
  -- "Events stored equal events finished, cancelled and still waiting."
  pub events : t.stored ≡ t.finished + t.cancelled + waiting
  pub bound : t.steps ≤ most_steps t

-- of every session, under the edition of any number n, and so behind each of its first calls
abbrev pub SessionCosts : Type 0
SessionCosts =
    (b : Bounds) (r : AutomationRate) (n : ℕ) (calls : List Asked) (k : ℕ) → let first = take k calls in Sums (totals (made b r n) first) (waiting_in (left_by_all (made b r n) first))
