-- What the calls answer that write a file and read one in parts: of arrays that pass their test, what the rules of `card` say; of all others a number of its
-- own, and no change.
use Rattle.std.specs.Prelude.{◌≡◌, Bool, true, false, cond, ◌&&◌, List, ℕ, ◌≤◌, leb, eqb, length, get_or, Float}
use Rattle.rules.specs.declared.AutomationRate.{AutomationRate}
use Rattle.rules.specs.Numbers.{store_length}
use Rattle.coding.specs.Coding.{state_length, is_state, param_in, state_of}
use Rattle.card.specs.Card.{is_accepted, Reading, begun, fed, at_end, Loaded, bad_store, loaded, Saved, saved}
use Rattle.card_reader.specs.Reader.{window_length, part_length}
use Rattle.card_coding.specs.Array.{card_length, verdict_number, is_going, reading_in, is_card, card_of, Keeps}

-- ---- numbers

-- the number for a state, or an array, that fails its test: none of document 01's or 02's
abbrev pub bad_card : ℕ
bad_card = 100

-- that for a part of more than 65,536 bytes
abbrev pub long_part : ℕ
long_part = 102

-- ---- writing

-- number, what is said beside it, and the slice
pub record Written : Type 0 where
  pub number : ℕ
  pub at : ℕ
  pub out : List ℕ

-- by whether the state passes: the bytes written, the event's place, or the bytes that a file takes
unfoldable pub written : Bool → Saved → ℕ → List ℕ → Written
written false k at out = record { number = bad_card; at = at; out = out }
written true k at out = record { number = verdict_number k.says.verdict; at = k.says.at; out = k.out }

-- the parameter of the state s is written, with its store
pub record WritesCard (s : List ℕ) (store : List Float) (out : List ℕ) (at : ℕ) (n : ℕ) (after : List ℕ) (place : ℕ) : Type 0 where
  pub says : record { number = n; at = place; out = after } ≡ written (is_state s) (saved (param_in s) store out) at out

-- ---- reading

-- number, array and numbers
pub record Told : Type 0 where
  pub number : ℕ
  pub card : List ℕ
  pub numbers : List Float

-- by whether the array and the numbers have their lengths
unfoldable pub begun_told : Bool → Reading → List ℕ → List Float → Told
begun_told false s card numbers = record { number = bad_card; card = card; numbers = numbers }
begun_told true s card numbers = record { number = 0; card = card_of s card; numbers = s.reader.store }

-- before the first part; a window is asked for then
pub record OpensCard (rate : AutomationRate) (edition : ℕ) (card : List ℕ) (numbers : List Float) (n : ℕ) (after : List ℕ) (left : List Float) : Type 0 where
  pub says : record { number = n; card = after; numbers = left }
      ≡ begun_told (eqb (length card) card_length && eqb (length numbers) store_length) (begun rate edition) card numbers
  pub keeps : n ≡ 0 → (window : List ℕ) → length window ≡ window_length → Keeps after left window (begun rate edition)

-- "A part longer than 65,536 bytes is refused by the call's own verdict (ours), nothing read" (reading 9); behind a field that is refused nothing is read
unfoldable pub part_told : Bool → Bool → Bool → Reading → List ℕ → List Float → Told
part_told false short going s card numbers = record { number = bad_card; card = card; numbers = numbers }
part_told true false going s card numbers = record { number = long_part; card = card; numbers = numbers }
part_told true true false s card numbers = record { number = 0; card = card; numbers = numbers }
part_told true true true s card numbers = record { number = 0; card = card_of s card; numbers = s.reader.store }

-- one part more. What stands in the window behind the bytes held is not said. A good array stays one, and what it keeps is the reading with the part.
pub record HearsCard (card : List ℕ) (numbers : List Float) (window part : List ℕ) (n : ℕ) (after : List ℕ) (left : List Float) (over : List ℕ) : Type 0 where
  pub says : record { number = n; card = after; numbers = left }
      ≡ part_told (is_card card numbers window) (leb (length part) part_length) (is_going card) (fed (reading_in card numbers window) part) card numbers
  pub rests : (is_card card numbers window && (leb (length part) part_length && is_going card)) ≡ false → over ≡ window
  pub stays : is_card card numbers window ≡ true → is_card after left over ≡ true
  pub keeps : (s : Reading) → length part ≤ part_length → Keeps card numbers window s → Keeps after left over (fed s part)

-- number, offset, state and store
pub record Ended : Type 0 where
  pub number : ℕ
  pub at : ℕ
  pub state : List ℕ
  pub store : List Float

-- "A refused reading leaves the parameter and store that the caller had"
unfoldable pub ended_as : Loaded → List ℕ → Ended
ended_as k state =
    record {
      number = verdict_number k.says.verdict;
      at = k.says.at;
      state = cond (is_accepted k.says.verdict) (state_of k.param state) state;
      store = k.store;
    }

-- Behind a field that is refused the array's own number and offset are given, a store of another length first.
unfoldable pub refused_end : List ℕ → Ended → Ended
refused_end card before =
    cond (eqb (length before.store) store_length)
    (record { number = get_or card 1 0; at = get_or card 2 0; state = before.state; store = before.store })
    (record { number = verdict_number bad_store.verdict; at = 0; state = before.state; store = before.store })

-- by whether the array and the state pass, and whether a field is refused
unfoldable pub ended : Bool → Bool → Loaded → List ℕ → Ended → Ended
ended false going k card before = before
ended true false k card before = refused_end card before
ended true true k card before = ended_as k before.state

-- The file's end; `before` is what was lent to be written. Of the old state nothing is read but its length, and what the numbers hold behind the end is not said.
pub record EndsCard (card : List ℕ) (numbers : List Float) (window : List ℕ) (before after : Ended) : Type 0 where
  pub says : after
      ≡ ended (is_card card numbers window && eqb (length before.state) state_length) (is_going card) (loaded (at_end (reading_in card numbers window)) (param_in before.state) before.store) card before
  pub keeps : (s : Reading) → length before.state ≡ state_length → Keeps card numbers window s
      → after ≡ ended_as (loaded (at_end s) (param_in before.state) before.store) before.state
  pub reads : after.number ≡ 0 → is_state after.state ≡ true
  pub gives : (s : Reading) → Keeps card numbers window s → after.number ≡ 0 → param_in after.state ≡ (loaded (at_end s) (param_in before.state) before.store).param
