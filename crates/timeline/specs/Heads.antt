-- An event of the queue with its numbers of the store: how code takes it, and what it may have become.
use Rattle.std.specs.Prelude.{◌≡◌, true, List, [], ◌∷◌, ℕ, ◌≤◌, length, take, drop, Float, Option, Some, None}
use Rattle.rules.specs.declared.Event.{Event}
use Rattle.rules.specs.Numbers.{store_length}
use Rattle.rules.specs.Queue.{Waiting, length_of}
use Rattle.laws.specs.Sound.{is_clear}

-- a waiting event, with its numbers
abbrev pub waiting_as : Event → List Float → Waiting
waiting_as e numbers = record { event = e; numbers = numbers }

-- the numbers of an event that begin at a place of the store
abbrev pub numbers_at : List Float → ℕ → Event → List Float
numbers_at store at e = take (length_of e) (drop at store)

-- an event with its own numbers, which fit in a store
pub record Numbered (e : Event) (numbers : List Float) : Type 0 where
  pub fits : length numbers ≡ length_of e
  pub few : length_of e ≤ store_length
  pub clear : is_clear e ≡ true

-- these events, the first of which has become another, with the numbers that it had
unfoldable pub with_head : Option Event → List Waiting → List Waiting
with_head None ws = ws
with_head (Some e) [] = []
with_head (Some e) (w ∷ ws) = waiting_as e w.numbers ∷ ws
