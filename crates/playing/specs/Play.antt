-- Playing: a parameter with its curve store, calls that schedule and cancel, and blocks one after the other.
use Rattle.rules.specs.declared.Refusal.{Refusal}
use Rattle.std.specs.Prelude.{◌≡◌, Bool, true, false, ◌||◌, List, [], ◌∷◌, ℕ, Float, Result, Ok, Err}
use Rattle.rules.specs.declared.Bounds.{Bounds}
use Rattle.rules.specs.declared.AutomationRate.{AutomationRate}
use Rattle.rules.specs.Queue.{Waiting, events_of, packed, attached}
use Rattle.rules.specs.Block.{Param, Call, Answer, with_queue, answered, Command, Called, called, made}

-- a parameter, and the curve store "lent again as the call before left it"
pub record State : Type 0 where
  pub param : Param
  pub store : List Float

-- the events that wait, in playing order, "curves included"
unfoldable pub waiting : State → List Waiting
waiting s = attached s.param.queue s.store

-- the parameter p with these events waiting, their numbers "end to end in queue order, then zeros"
unfoldable pub loaded : Param → List Waiting → State
loaded p ws = record { param = with_queue (events_of ws) p; store = packed ws }

-- the same state with its store as an answered call would leave it: zeros behind the waiting curves' numbers, which alone are read
unfoldable pub tidied : State → State
tidied s = loaded s.param (waiting s)

-- ---- scheduling and cancelling, before the first block or between blocks

-- a parameter just made, n the number of its edition, and a store of which nothing is said
unfoldable pub begun : Bounds → AutomationRate → ℕ → List Float → State
begun b r n store = record { param = made b r n; store = store }

unfoldable pub asked : State → Command → Called
asked s c = called s.param s.store c

abbrev pub left_by_call : Called → State
left_by_call a = record { param = a.param; store = a.store }

unfoldable pub after_call : State → Command → State
after_call s c = left_by_call (asked s c)

-- what stands after these calls
unfoldable pub scheduled : State → List Command → State
scheduled s [] = s
scheduled s (c ∷ cs) = scheduled (after_call s c) cs

-- and what is said to each
unfoldable pub verdicts : State → List Command → List (Result Unit Refusal)
verdicts s [] = []
verdicts s (c ∷ cs) = (asked s c).verdict ∷ verdicts (after_call s c) cs

-- those of them that are answered
unfoldable pub accepted_if : Result Unit Refusal → Command → List Command → List Command
accepted_if (Ok _) c cs = c ∷ cs
accepted_if (Err r) c cs = cs

unfoldable pub accepted : State → List Command → List Command
accepted s [] = []
accepted s (c ∷ cs) = accepted_if (asked s c).verdict c (accepted (after_call s c) cs)

abbrev pub AllAccepted : State → List Command → Type 0
AllAccepted s [] = Unit {0}
AllAccepted s (c ∷ cs) = ((asked s c).verdict ≡ Ok tt) × AllAccepted (after_call s c) cs

-- ---- blocks

unfoldable pub answer_to : State → Call → Answer
answer_to s c = answered s.param s.store c

abbrev pub left_by : Answer → State
left_by a = record { param = a.param; store = a.store }

unfoldable pub after : State → Call → State
after s c = left_by (answer_to s c)

unfoldable pub after_all : State → List Call → State
after_all s [] = s
after_all s (c ∷ cs) = after_all (after s c) cs

-- the answers to these blocks
unfoldable pub played : State → List Call → List Answer
played s [] = []
played s (c ∷ cs) = answer_to s c ∷ played (after s c) cs

-- ---- what an answer says

-- the same answer, with this parameter and store
abbrev pub leaving : Param → List Float → Answer → Answer
leaving p store a =
    record {
      verdict = a.verdict;
      param = p;
      store = store;
      output = a.output;
      steps = a.steps;
      current = a.current;
      one_valued = a.one_valued;
      finished = a.finished;
      turned = a.turned;
    }

-- an answer, "waiting events apart"
unfoldable pub apart : Answer → Answer
apart a = leaving (with_queue [] a.param) [] a

-- an answer, but for the store of a refused call, which is the one that was lent
unfoldable pub store_told : Result Unit Refusal → List Float → List Float
store_told (Ok _) store = store
store_told (Err r) store = []

unfoldable pub told : Answer → Answer
told a = leaving a.param (store_told a.verdict a.store) a

unfoldable pub is_answered : Result Unit Refusal → Bool
is_answered (Ok _) = true
is_answered (Err r) = false

unfoldable pub any_answered : List Answer → Bool
any_answered [] = false
any_answered (a ∷ more) = is_answered a.verdict || any_answered more
