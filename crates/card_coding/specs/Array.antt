-- What a caller keeps of a reader between two parts: an array of numbers, and beside it the curves' numbers and the window. Which number stands at which
-- place, the test that is made of it, what is read from it, and what is written.
use Rattle.card.specs.declared.Fault.{Fault}
use Rattle.std.specs.Prelude.{◌≡◌, Bool, true, cond, not, ◌&&◌, List, [], ◌∷◌, ◌++◌, ℕ, suc, ◌*◌, ◌≤◌, leb, eqb, length, get_or, take, drop, Float, Ok, Result, Err}
use Rattle.rules.specs.Numbers.{store_length}
use Rattle.param.specs.Param.{param_of, struct_of, SoundParam}
use Rattle.coding.specs.Coding.{is_state, param_in, state_of, time_in, rate_in, flag_of, bits_of, rate_word}
use Rattle.card.specs.Card.{fault_number, is_whole, Reader, Reading}
use Rattle.card_reader.specs.declared.CardReader.{CardReader}
use Rattle.card_reader.specs.Reader.{reader_of, reading_of, window_length}

-- ---- the layout

-- its version; the refusal's number, 0 while there is none; the offset; the bytes held; the rate; the edition's number; whether the range has come; flag and
-- bits of the time before; then the parameter's state
abbrev pub card_head : ℕ
card_head = 9

abbrev pub card_length : ℕ
card_length = 408

abbrev pub card_version : ℕ
card_version = 1

-- 0, or the fault's number
unfoldable pub verdict_number : Result Unit Fault → ℕ
verdict_number (Ok _) = 0
verdict_number (Err f) = fault_number f

unfoldable pub bit_of : Bool → ℕ
bit_of b = cond b 1 0

-- ---- what is read

abbrev pub state_in : List ℕ → List ℕ
state_in card = drop card_head card

-- no field is refused so far
unfoldable pub is_going : List ℕ → Bool
is_going card = eqb (get_or card 1 0) 0

unfoldable pub is_ranged : List ℕ → Bool
is_ranged card = not (eqb (get_or card 6 0) 0)

-- while no field is refused, the reader
abbrev pub reader_in : List ℕ → CardReader
reader_in card =
    record {
      param = struct_of (param_in (state_in card));
      rate = rate_in (get_or card 4 0);
      edition = get_or card 5 0;
      ranged = is_ranged card;
      before = time_in (get_or card 7 0) (get_or card 8 0);
      offset = get_or card 2 0;
      verdict = (Ok tt);
      held = get_or card 3 0;
    }

-- with its numbers, and what has come of a field
abbrev pub reading_in : List ℕ → List Float → List ℕ → Reading
reading_in card numbers window = reading_of (reader_in card) numbers window

-- ---- the test

unfoldable pub are_long : List ℕ → List Float → List ℕ → Bool
are_long card numbers window = eqb (length card) card_length && (eqb (length numbers) store_length && eqb (length window) window_length)

-- the version, a refusal's number that is a byte, and fewer bytes held than the window has
unfoldable pub is_head : List ℕ → Bool
is_head card = eqb (get_or card 0 0) card_version && (leb (get_or card 1 0) 255 && leb (suc (get_or card 3 0)) window_length)

-- no whole field waits
unfoldable pub is_waiting : List ℕ → List ℕ → Bool
is_waiting card window = not (is_going card && is_whole (take (get_or card 3 0) window))

-- the most bytes that the fields of a parameter with n events have
abbrev pub bytes_counted : Bool → ℕ → ℕ
bytes_counted ranged n = window_length * cond ranged (suc n) 0

-- the state is one of a parameter, and its fields have as many bytes as are counted
unfoldable pub is_counted : List ℕ → Bool
is_counted card =
    is_state (state_in card) && leb (get_or card 2 0) (bytes_counted (is_ranged card) (length (param_in (state_in card)).queue))

-- whether an array is one of a reader, with these numbers and this window
unfoldable pub is_card : List ℕ → List Float → List ℕ → Bool
is_card card numbers window = are_long card numbers window && (is_head card && (is_waiting card window && is_counted card))

-- ---- what is written

abbrev pub head_words : Result Unit Fault → ℕ → ℕ → Reader → List ℕ
head_words v offset held r =
    card_version ∷ verdict_number v ∷ offset ∷ held ∷ rate_word r.rate ∷ r.edition ∷ bit_of r.ranged ∷ flag_of r.before ∷ bits_of r.before ∷ []

-- the array with a reading written over it: of the parameter's state the numbers behind its events stay
unfoldable pub card_of : Reading → List ℕ → List ℕ
card_of s card =
    head_words s.reader.verdict s.reader.offset (length s.rest) s.reader ++ state_of s.reader.param (state_in card)

-- ---- a reading that is kept

-- The array, its numbers and its window keep the reading s. Of one whose field is refused they keep the refusal's number and the offset.
pub record Keeps (card : List ℕ) (numbers : List Float) (window : List ℕ) (s : Reading) : Type 0 where
  pub good : is_card card numbers window ≡ true
  pub number : get_or card 1 0 ≡ verdict_number s.reader.verdict
  pub offset : get_or card 2 0 ≡ s.reader.offset
  pub going : get_or card 1 0 ≡ 0 → reading_in card numbers window ≡ s

-- ---- what the functions ensure

-- the number fits a byte
pub record Numbers (v : Result Unit Fault) (n : ℕ) : Type 0 where
  pub is : n ≡ verdict_number v
  pub small : n ≤ 255

-- a state that passes its test gives the reader
pub record ReadsCard (card : List ℕ) (r : CardReader) : Type 0 where
  pub is : r ≡ reader_in card
  pub sound : SoundParam r.param

-- all but the parameter's state is written, and given back
pub record PutsHead (card : List ℕ) (r : CardReader) (after : List ℕ) : Type 0 where
  pub is : after ≡ head_words r.verdict r.offset r.held (reader_of r []) ++ drop card_head card
  pub small : verdict_number r.verdict ≤ 255
  pub before : time_in (flag_of r.before) (bits_of r.before) ≡ r.before

-- a reader is written, and given back
pub record PutsCard (card : List ℕ) (r : CardReader) (after : List ℕ) : Type 0 where
  pub is : after ≡ head_words r.verdict r.offset r.held (reader_of r []) ++ state_of (param_of r.param) (state_in card)
  pub small : verdict_number r.verdict ≤ 255
  pub before : time_in (flag_of r.before) (bits_of r.before) ≡ r.before
  pub state : is_state (state_of (param_of r.param) (state_in card)) ≡ true
  pub param : param_in (state_of (param_of r.param) (state_in card)) ≡ param_of r.param
