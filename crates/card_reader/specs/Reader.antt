-- The reader as code holds it, and what its functions ensure: one relation for a kind of call, by the rules of `card`.
use Rattle.std.specs.Prelude.{◌≡◌, Bool, true, false, cond, ◌&&◌, List, ℕ, suc, ◌+◌, ◌-◌, ◌*◌, ◌≤◌, ◌<◌, length, take, drop, Float, Option, Some, None, Ok, Err}
use Rattle.rules.specs.declared.AutomationRate.{AutomationRate}
use Rattle.rules.specs.Numbers.{store_length}
use Rattle.param.specs.declared.AudioParam.{AudioParam}
use Rattle.param.specs.Param.{param_of, struct_of, SoundParam}
use Rattle.card.specs.declared.Fault.{Fault}
use Rattle.card.specs.Card.{tag_of, is_tag, is_wrong, is_whole, is_accepted, Reader, opened, Reading, taken, fed, at_end}
use Rattle.card.specs.Card as card
use Rattle.card_reader.specs.declared.CardReader.{CardReader}
use Rattle.card_reader.specs.declared.Taken.{Taken}
use Rattle.card_reader.specs.declared.Loaded.{Loaded}

-- ---- fields

-- a field that is whole, of a known tag and with the tag's length
pub record FieldFits (bs : List ℕ) : Type 0 where
  pub tag : is_tag (tag_of bs) ≡ true
  pub right : is_wrong bs ≡ false
  pub whole : is_whole bs ≡ true

-- ---- the reader

-- with the numbers of its curves, which are lent beside it
abbrev pub reader_of : CardReader → List Float → Reader
reader_of r numbers =
    record {
      rate = r.rate;
      edition = r.edition;
      ranged = r.ranged;
      param = param_of r.param;
      store = numbers;
      before = r.before;
      offset = r.offset;
      verdict = r.verdict;
    }

-- and with its window, in front of which stands what has come of a field
abbrev pub reading_of : CardReader → List Float → List ℕ → Reading
reading_of r numbers window = record { reader = reader_of r numbers; rest = take r.held window }

-- the most bytes of a field
abbrev pub window_length : ℕ
window_length = 65538

-- the most bytes of a part
abbrev pub part_length : ℕ
part_length = 65536

-- what every reader is that these calls give back; so few fields are kept that their bytes can be counted
pub record SoundReader (r : CardReader) (numbers : List Float) : Type 0 where
  pub param : SoundParam r.param
  pub long : length numbers ≡ store_length
  pub counted : r.offset ≤ window_length * cond r.ranged (suc (length (param_of r.param).queue)) 0

-- the window has room for more, and no whole field waits in it
pub record SoundWindow (r : CardReader) (window : List ℕ) : Type 0 where
  pub long : length window ≡ window_length
  pub room : r.held < window_length
  pub waits : (is_accepted r.verdict && is_whole (take r.held window)) ≡ false

-- ---- what its functions ensure

-- the reader whose field at hand is refused
abbrev pub refused_reader : Fault → CardReader → CardReader
refused_reader f r =
    record {
      param = r.param;
      rate = r.rate;
      edition = r.edition;
      ranged = r.ranged;
      before = r.before;
      offset = r.offset;
      verdict = Err f;
      held = r.held;
    }

-- the reader behind a field that is kept
abbrev pub kept_reader : CardReader → AudioParam → Option Float → ℕ → CardReader
kept_reader r p before len =
    record {
      param = p;
      rate = r.rate;
      edition = r.edition;
      ranged = true;
      before = before;
      offset = r.offset + len;
      verdict = (Ok tt);
      held = r.held;
    }

-- before the first part
pub record Opens (rate : AutomationRate) (edition : ℕ) (r : CardReader) (numbers : List Float) : Type 0 where
  pub reader : reader_of r numbers ≡ opened rate edition
  pub held : r.held ≡ 0
  pub sound : SoundReader r numbers

-- one turn of the rules: from the reader r and its numbers to s and these
pub record Does (turn : Reader → Reader) (r : CardReader) (numbers : List Float) (s : CardReader) (after : List Float) : Type 0 where
  pub reader : reader_of s after ≡ turn (reader_of r numbers)
  pub sound : SoundReader s after

-- the turn at the file's end, with these bytes left over
abbrev pub ended : List ℕ → Reader → Reader
ended rest r = at_end (record { reader = r; rest = rest })

-- the complete fields of these bytes
pub record Takes (r : CardReader) (numbers : List Float) (bs : List ℕ) (t : Taken) (after : List Float) : Type 0 where
  pub reading : record { reader = reader_of t.reader after; rest = drop t.used bs } ≡ taken (length bs) bs (reader_of r numbers)
  pub inside : t.used ≤ length bs
  pub stops : (is_accepted t.reader.verdict && is_whole (drop t.used bs)) ≡ false
  pub short : length bs - t.used < window_length
  pub sound : SoundReader t.reader after

-- one part more
pub record Feeds (part : List ℕ) (r : CardReader) (numbers : List Float) (window : List ℕ) (s : CardReader) (after : List Float) (left : List ℕ) : Type 0 where
  pub reading : reading_of s after left ≡ fed (reading_of r numbers window) part
  pub sound : SoundReader s after
  pub fits : SoundWindow s left

-- "A part longer than 65,536 bytes is refused by the call's own verdict (ours), nothing read" (reading 9): the reader, its numbers and its window stay
unfoldable pub TakesPart : Bool → List ℕ → CardReader → List Float → List ℕ → Option CardReader → List Float → List ℕ → Type 0
TakesPart true part r numbers window f after left = (k : CardReader) × (f ≡ Some k) × Feeds part r numbers window k after left
TakesPart false part r numbers window f after left = (f ≡ None) × (after ≡ numbers) × (left ≡ window)

-- the file's end: p and the store are the caller's
pub record Loads (s : Reading) (p : AudioParam) (store : List Float) (r : Loaded) (after : List Float) : Type 0 where
  pub says : r.says ≡ (card.loaded (at_end s) (param_of p) store).says
  pub param : r.param ≡ struct_of (card.loaded (at_end s) (param_of p) store).param
  pub left : after ≡ (card.loaded (at_end s) (param_of p) store).store
  pub sound : SoundParam r.param
