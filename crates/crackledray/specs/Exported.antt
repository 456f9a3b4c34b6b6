-- What the exported calls answer: of a state that passes its test, what document 01's call answers; of any other, a number of its own and no change.
use Rattle.rules.specs.declared.Refusal.{Refusal}
use Rattle.std.specs.Prelude.{◌≡◌, Bool, true, false, cond, List, ℕ, eqb, length, Float, Option, Some, None, Result, Ok, Err}
use Rattle.rules.specs.declared.AutomationRate.{AutomationRate}
use Rattle.rules.specs.declared.AutomationRate.TheVariants as Rate
use Rattle.rules.specs.declared.Bounds.{Bounds}
use Rattle.rules.specs.Refusals.{number_of, lowest, making_rows}
use Rattle.rules.specs.Block.{Param, made, Command, Called, called, Call, Answer, answered}
use Rattle.param.specs.declared.AudioParam.{AudioParam}
use Rattle.param.specs.Param.{param_of, SoundParam}
use Rattle.coding.specs.Coding.{state_length, param_in, is_state, state_of}

-- ---- numbers

-- 0.8.0 of the calls and of the state: 65,536 × major + 256 × minor + patch
abbrev pub version : ℕ
version = 2048

-- the number for a state that fails the test: none of document 01's
abbrev pub bad_state : ℕ
bad_state = 100

-- 0, or document 01's number
unfoldable pub number_as : Result Unit Refusal → ℕ
number_as (Ok _) = 0
number_as (Err why) = number_of why

-- true is K-rate
unfoldable pub rate_of : Bool → AutomationRate
rate_of false = Rate.A
rate_of true = Rate.K

-- ---- what a call leaves

-- an answered call writes its parameter over the state; a refused one leaves the state as it is
unfoldable pub state_after : Result Unit Refusal → Param → List ℕ → List ℕ
state_after (Ok _) p s = state_of p s
state_after (Err why) p s = s

-- number, state and store after a call that schedules or cancels
pub record Told : Type 0 where
  pub number : ℕ
  pub state : List ℕ
  pub store : List Float

-- by whether the state passes, and what the call on its parameter answers
unfoldable pub told : Bool → List ℕ → List Float → Called → Told
told false s store k = record { number = bad_state; state = s; store = store }
told true s store k = record { number = number_as k.verdict; state = state_after k.verdict k.param s; store = k.store }

-- number, state, store, output and the block's own answers
pub record Played : Type 0 where
  pub number : ℕ
  pub state : List ℕ
  pub store : List Float
  pub output : List Float
  pub steps : ℕ
  pub current : Float
  pub one : Bool

unfoldable pub played : Bool → List ℕ → Answer → Played → Played
played false s a before = before
played true s a before =
    record {
      number = number_as a.verdict;
      state = state_after a.verdict a.param s;
      store = a.store;
      output = a.output;
      steps = a.steps;
      current = a.current;
      one = a.one_valued;
    }

-- ---- what the functions ensure

-- the parameter of a state that passes its test
pub record Keeps (s : List ℕ) (p : AudioParam) : Type 0 where
  pub good : is_state s ≡ true
  pub is : param_of p ≡ param_in s
  pub sound : SoundParam p
  pub long : length s ≡ state_length

-- none where the state fails it
abbrev pub Holds : List ℕ → Option AudioParam → Type 0
Holds s None = is_state s ≡ false
Holds s (Some p) = Keeps s p

-- The constructors. Nothing of the old state is read but its length; refused, what refusal 1 returns is written, and by 12 the same.
pub record Begins (s : List ℕ) (b : Bounds) (rate : AutomationRate) (edition : ℕ) (n : ℕ) (after : List ℕ) : Type 0 where
  pub number : n ≡ cond (eqb (length s) state_length) (number_as (lowest (making_rows b edition))) bad_state
  pub state : after ≡ cond (eqb (length s) state_length) (state_of (made b rate edition) s) s
  pub reads : length s ≡ state_length → (is_state after ≡ true) × (param_in after ≡ made b rate edition)

-- A call on the parameter of the state s, with a store: n is its number, and these are left. A good state stays one, of the call's parameter.
pub record Tells (s : List ℕ) (store : List Float) (c : Command) (n : ℕ) (after : List ℕ) (left : List Float) : Type 0 where
  pub says : record { number = n; state = after; store = left } ≡ told (is_state s) s store (called (param_in s) store c)
  pub reads : is_state s ≡ true → (is_state after ≡ true) × (param_in after ≡ (called (param_in s) store c).param)

-- a block on it; `before` is what was lent to be written
pub record Plays (s : List ℕ) (store : List Float) (c : Call) (before after : Played) : Type 0 where
  pub says : after ≡ played (is_state s) s (answered (param_in s) store c) before
  pub reads : is_state s ≡ true → (is_state after.state ≡ true) × (param_in after.state ≡ (answered (param_in s) store c).param)

-- what is done with a call's answer: its number is given, and its parameter written
pub record Closes (v : Result Unit Refusal) (p : Param) (s : List ℕ) (n : ℕ) (after : List ℕ) : Type 0 where
  pub number : n ≡ number_as v
  pub state : after ≡ state_after v p s
  pub reads : v ≡ Ok tt → (is_state after ≡ true) × (param_in after ≡ p)
