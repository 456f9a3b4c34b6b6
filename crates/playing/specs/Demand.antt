-- Demand 3: "What is shared is played the same: two schedules that agree in their first events play the same as long as two of these still wait, and one can be
-- resumed as the other."
use Rattle.std.specs.Prelude.{◌≡◌, Bool, true, cond, List, [], ◌∷◌, ◌++◌, map, ℕ, ◌+◌, ◌-◌, leb, length, take, drop, Float}
use Rattle.rules.specs.declared.Bounds.{Bounds}
use Rattle.rules.specs.declared.AutomationRate.{AutomationRate}
use Rattle.rules.specs.Numbers.{store_length}
use Rattle.rules.specs.Queue.{Waiting, numbers_of}
use Rattle.rules.specs.Block.{Call, Command}
use Rattle.laws.specs.Sound.{Sound}
use Rattle.playing.specs.Play.{State, waiting, loaded, tidied, begun, scheduled, after, after_all, played, apart, told, any_answered}

-- ---- its words; n is how many events stand behind the shared ones. Heads are taken in turn, so that these n are the last to go.

-- "two of these": one would not do, since a target looks at the event behind it (proofs/Example.antt)
abbrev pub enough : ℕ
enough = 2

abbrev pub two_wait : ℕ → State → Bool
two_wait n s = leb (n + enough) (length s.param.queue)

-- "as long as two shared events still wait after a block": the blocks before "the first block where that stops"
unfoldable pub while_two_wait : ℕ → State → List Call → List Call
while_two_wait n s [] = []
while_two_wait n s (c ∷ cs) = let more = c ∷ while_two_wait n (after s c) cs in cond (two_wait n (after s c)) more []

-- "the shared ones still waiting"
unfoldable pub still_shared : ℕ → State → List Waiting
still_shared n s = take (length (waiting s) - n) (waiting s)

-- a state, "with the second's later events and their curves behind the shared ones still waiting"
unfoldable pub resumed_with : ℕ → List Waiting → State → State
resumed_with n later s = loaded s.param (still_shared n s ++ later)

-- ---- two states whose first m waiting events agree

-- how many are not shared
abbrev pub behind : ℕ → State → ℕ
behind m s = length (waiting s) - m

-- the first after the blocks cs, resumed as the second
abbrev pub resumed : ℕ → State → State → List Call → State
resumed m s t cs = resumed_with (behind m s) (drop m (waiting t)) (after_all s cs)

-- a store that is lent to the resumed one: 4,096 numbers, those of the waiting curves first, whatever stands behind
pub record Holds (ws : List Waiting) (store : List Float) : Type 0 where
  pub long : length store ≡ store_length
  pub first : take (length (numbers_of ws)) store ≡ numbers_of ws

abbrev pub with_store : List Float → State → State
with_store store s = record { param = s.param; store = store }

-- Both played over the same blocks and inputs, `all`; cs are those before the first block after which fewer than two shared events wait.
pub record PlayedTheSame (m : ℕ) (s t : State) (all cs : List Call) : Type 0 where
  -- that block is the same one, whichever of the two is looked at
  pub first : while_two_wait (behind m s) s all ≡ cs
  pub second : while_two_wait (behind m t) t all ≡ cs
  -- "answers and samples are the same, waiting events apart"
  pub heard : map apart (played s cs) ≡ map apart (played t cs)
  -- the shared events that still wait, and their curves' numbers
  pub shared : still_shared (behind m s) (after_all s cs) ≡ still_shared (behind m t) (after_all t cs)
  -- behind them the first's later events wait as they came
  pub later : waiting (after_all s cs) ≡ still_shared (behind m s) (after_all s cs) ++ drop m (waiting s)
  -- the second's whole state is the first's with its later events replaced: as the next answered call reads it, and number for number once a block was answered
  pub state : tidied (after_all t cs) ≡ resumed m s t cs
  pub whole : any_answered (played t cs) ≡ true → after_all t cs ≡ resumed m s t cs
  -- that state is a parameter's, so that there is one to resume with, and its store is one to lend
  pub sound : Sound (resumed m s t cs).param
  pub holds : Holds (waiting (resumed m s t cs)) (resumed m s t cs).store
  -- "resumed from the state and store before the first block where that stops, .. the rest equals the second played from the start": with any store that holds its curves
  pub rest : (store : List Float) → Holds (waiting (resumed m s t cs)) store
      → map told (drop (length cs) (played t all)) ≡ map told (played (with_store store (resumed m s t cs)) (drop (length cs) all))

-- ---- two schedules

-- "two complete schedules for one parameter, accepted before the first block, whose first m events in playing order agree, curves included; .. each store lent again
-- as the call before left it". A refused call changes nothing, so any calls are a schedule of those that are accepted (`accepted-alone`): "both
-- schedules are now ones accepted under this rule" (02, C-14), since 11 is among the refusals. The stores first lent hold 4,096 numbers each, whatever these are.
-- "Demand 3 compares two schedules under one edition" (02, C-19): n is its number.
abbrev pub TwoSchedules : (ℕ → State → State → Type 0) → Type 0
TwoSchedules Claim =
    (b : Bounds) (r : AutomationRate) (n : ℕ) (one other : List Float) → length one ≡ store_length → length other ≡ store_length → (xs ys : List Command) (m : ℕ)
    → take m (waiting (scheduled (begun b r n one) xs)) ≡ take m (waiting (scheduled (begun b r n other) ys))
    → Claim m (scheduled (begun b r n one) xs) (scheduled (begun b r n other) ys)

abbrev pub Demand3 : Type 0
Demand3 = TwoSchedules (λ m s t. (all : List Call) → PlayedTheSame m s t all (while_two_wait (behind m s) s all))

-- the same after each of those blocks
abbrev pub Demand3Each : Type 0
Demand3Each =
    TwoSchedules (λ m s t. (all : List Call) (k : ℕ) → let cs = take k (while_two_wait (behind m s) s all) in PlayedTheSame m s t cs cs)
