-- The code run: a parameter and a store that calls pass on, and what each call gives, meeting its contract.
use Rattle.std.specs.Prelude.{◌≡◌, Bool, true, false, List, [], ℕ, Float}
use Rattle.rules.specs.Block.{Call, Answer, Command, Called, set, step, linear, exponential, target, curve, cancel, hold, answered}
use Rattle.param.specs.declared.AudioParam.{AudioParam}
use Rattle.param.specs.declared.Outcome.{Outcome}
use Rattle.param.specs.declared.Processed.{Processed}
use Rattle.param.specs.Param.{param_of, Answers}
use Rattle.param.specs.Processed.{Processes}
use Rattle.playing.specs.Play.{State}

-- what is passed on from call to call: the parameter, and the store "lent again as the call before left it"
pub record Held : Type 0 where
  pub param : AudioParam
  pub store : List Float

abbrev pub state_of : Held → State
state_of h = record { param = param_of h.param; store = h.store }

-- ---- scheduling and cancelling

-- what such a call gives, and the store after it
pub record Done : Type 0 where
  pub outcome : Outcome
  pub store : List Float

abbrev pub left_by_done : Done → Held
left_by_done r = record { param = r.outcome.param; store = r.store }

abbrev pub called_by : Done → Called
called_by r = record { verdict = r.outcome.verdict; param = param_of r.outcome.param; store = r.store }

-- whether a call is lent the store (DECISIONS, reading 9)
unfoldable pub is_lent : Command → Bool
is_lent (set v) = false
is_lent (step v t) = false
is_lent (linear v t) = false
is_lent (exponential v t) = false
is_lent (target v t c) = false
is_lent (curve t d xs) = true
is_lent (cancel c) = true
is_lent (hold c) = true

-- the contract of the call; one that is not lent the store cannot touch it
abbrev pub DoneAs : Bool → Held → Command → Done → Type 0
DoneAs true h c r = Answers h.param h.store c r.outcome r.store
DoneAs false h c r = Answers h.param [] c r.outcome [] × (r.store ≡ h.store)

abbrev pub MeetsCall : Held → Command → Done → Type 0
MeetsCall h c r = DoneAs (is_lent c) h c r

-- ---- blocks

-- What `process` gives, and the output and store after it. The code reports no count of finished events and of turned exponentials: these two are the rules'.
pub record Block : Type 0 where
  pub result : Processed
  pub output : List Float
  pub store : List Float
  pub finished : ℕ
  pub turned : ℕ

abbrev pub left_by_block : Block → Held
left_by_block r = record { param = r.result.param; store = r.store }

abbrev pub answer_by : Block → Answer
answer_by r =
    record {
      verdict = r.result.verdict;
      param = param_of r.result.param;
      store = r.store;
      output = r.output;
      steps = r.result.steps;
      current = r.result.current;
      one_valued = r.result.one;
      finished = r.finished;
      turned = r.turned;
    }

pub record MeetsBlock (h : Held) (c : Call) (r : Block) : Type 0 where
  pub contract : Processes h.param h.store c r.result r.output r.store
  pub finished : r.finished ≡ (answered (param_of h.param) h.store c).finished
  pub turned : r.turned ≡ (answered (param_of h.param) h.store c).turned
