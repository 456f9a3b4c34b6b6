-- 02, C-11: a schedule file, "a run of tagged fields", in 02's words and order: the fields, the reader's turn on one, a file read, a parameter written.
use Rattle.rules.specs.declared.Refusal.{Refusal}
use Rattle.std.specs.Prelude.{Bool, true, false, cond, not, ◌&&◌, ◌||◌, List, [], ◌∷◌, ◌++◌, ℕ, zero, suc, ◌+◌, ◌-◌, ◌/◌, ◌%◌, leb, eqb, length, get_or, drop, replicate, Float, Option, Some, None, Result, Ok, Err}
use Rattle.rules.specs.declared.Bounds.{Bounds}
use Rattle.rules.specs.declared.AutomationRate.{AutomationRate}
use Rattle.rules.specs.declared.Event.{Event}
use Rattle.rules.specs.declared.Refusal.TheVariants as Refusal
use Rattle.rules.specs.Numbers.{plus_zero, store_length, is_zero}
use Rattle.rules.specs.Queue.{Waiting, attached}
use Rattle.rules.specs.Refusals.{number_of, lowest, making_rows, all_finite, is_earlier}
use Rattle.rules.specs.Block.{Param, made, Command, set, step, linear, exponential, target, curve, cancel, hold, Called, called}
use Rattle.laws.specs.Sound.{is_from_zero, has_played}
use Rattle.words.specs.Words.{bytes_of, word_at, single_at, double_at, singles_at, single_bytes, double_bytes, numbers_bytes}
use Rattle.param.specs.Param.{nothing_made}
use Rattle.card.specs.declared.Fault.{Fault}
use Rattle.card.specs.declared.Judged.{Judged}

-- ---- refusals

-- 02's numbers, and 01's own; for a slice that is too short a number of ours
unfoldable pub fault_number : Fault → ℕ
fault_number Fault.UnknownTag = 20
fault_number Fault.WrongLength = 21
fault_number Fault.Misplaced = 22
fault_number Fault.CutShort = 23
fault_number Fault.Unwritable = 24
fault_number Fault.OutOfTurn = 28
fault_number (Fault.Own why) = number_of why
fault_number Fault.NoRoom = 101

-- "what the reader accepts"; of the writer, what it writes
unfoldable pub is_accepted : Result Unit Fault → Bool
is_accepted (Ok _) = true
is_accepted (Err f) = false

-- ---- a field: "one byte tag, two bytes length, low byte first, then that many bytes"; these are its bytes, and what is behind them

unfoldable pub tag_of : List ℕ → ℕ
tag_of bs = get_or bs 0 0

-- whether tag and length are there
unfoldable pub has_head : List ℕ → Bool
has_head bs = leb 3 (length bs)

unfoldable pub length_in : List ℕ → ℕ
length_in bs = word_at 2 bs 1

unfoldable pub field_length : List ℕ → ℕ
field_length bs = 3 + length_in bs

-- not "cut short"
unfoldable pub is_whole : List ℕ → Bool
is_whole bs = has_head bs && leb (field_length bs) (length bs)

-- "Tags 1 to 5 are step, linear, exponential, target, curve; 6 is the range"
unfoldable pub is_tag : ℕ → Bool
is_tag n = leb 1 n && leb n 6

unfoldable pub is_range : List ℕ → Bool
is_range bs = eqb (tag_of bs) 6

-- what a tag's contents take: an f32 and an f64, three f32, a target an f64 more; a curve two f64 and its numbers, "16 + 4n" (reading 1)
unfoldable pub fits_tag : ℕ → ℕ → Bool
fits_tag tag n = cond (eqb tag 4) (eqb n 20) (cond (eqb tag 5) (leb 16 n && eqb (n % 4) 0) (eqb n 12))

-- how many numbers a curve's field has
unfoldable pub numbers_in : List ℕ → ℕ
numbers_in bs = (length_in bs - 16) / 4

-- "6 is the range with minimum, default, maximum"
unfoldable pub bounds_in : List ℕ → Bounds
bounds_in bs = record { min = single_at bs 3; default = single_at bs 7; max = single_at bs 11 }

-- "in the order value, time, time constant or duration; a curve has start, duration, then its numbers": the call that an event's field stands for
unfoldable pub event_in : List ℕ → Command
event_in bs =
    cond (eqb (tag_of bs) 1) (step (single_at bs 3) (double_at bs 7))
    (cond (eqb (tag_of bs) 2) (linear (single_at bs 3) (double_at bs 7))
    (cond (eqb (tag_of bs) 3) (exponential (single_at bs 3) (double_at bs 7))
    (cond (eqb (tag_of bs) 4) (target (single_at bs 3) (double_at bs 7) (double_at bs 15))
    (curve (double_at bs 3) (double_at bs 11) (singles_at bs 19 (numbers_in bs))))))

-- ---- the reader

-- What is read so far. "The range comes first and once; the caller gives the rate", and the edition (reading 26). The store begins with zeros (reading 7).
pub record Reader : Type 0 where
  pub rate : AutomationRate
  pub edition : ℕ
  pub ranged : Bool
  pub param : Param
  pub store : List Float
  -- the time of the event's field before
  pub before : Option Float
  -- where the next field begins; of a field that is refused, its own "byte offset"
  pub offset : ℕ
  pub verdict : Result Unit Fault

abbrev pub opened : AutomationRate → ℕ → Reader
opened rate n =
    record {
      rate = rate;
      edition = n;
      ranged = false;
      param = nothing_made;
      store = replicate store_length plus_zero;
      before = None;
      offset = 0;
      verdict = (Ok tt);
    }

-- "and nothing stored"
abbrev pub refused_by : Fault → Reader → Reader
refused_by f r =
    record {
      rate = r.rate;
      edition = r.edition;
      ranged = r.ranged;
      param = r.param;
      store = r.store;
      before = r.before;
      offset = r.offset;
      verdict = Err f;
    }

-- behind a field that is kept
abbrev pub kept_as : List ℕ → Param → List Float → Option Float → Reader → Reader
kept_as bs p store before r =
    record {
      rate = r.rate;
      edition = r.edition;
      ranged = true;
      param = p;
      store = store;
      before = before;
      offset = r.offset + field_length bs;
      verdict = (Ok tt);
    }

-- ---- the reader's turn on one field

-- 21 "wrong length": it needs the three bytes (reading 2)
unfoldable pub is_wrong : List ℕ → Bool
is_wrong bs = has_head bs && not (fits_tag (tag_of bs) (length_in bs))

-- 22 "an event before the range, a second range"
unfoldable pub is_misplaced : Bool → List ℕ → Bool
is_misplaced ranged bs = cond (is_range bs) ranged (not ranged)

-- a curve's is its start
unfoldable pub time_of : Command → Float
time_of (set v) = plus_zero
time_of (step v t) = t
time_of (linear v t) = t
time_of (exponential v t) = t
time_of (target v t c) = t
time_of (curve t d xs) = t
time_of (cancel c) = c
time_of (hold c) = c

-- "a time of −0"
unfoldable pub is_minus_zero : Float → Bool
is_minus_zero t = is_zero t && not (is_from_zero t)

-- "a time constant of 0", -0 too (reading 4)
unfoldable pub has_no_constant : Command → Bool
has_no_constant (set v) = false
has_no_constant (step v t) = false
has_no_constant (linear v t) = false
has_no_constant (exponential v t) = false
has_no_constant (target v t c) = is_zero c
has_no_constant (curve t d xs) = false
has_no_constant (cancel c) = false
has_no_constant (hold c) = false

-- 28 "an event earlier than the one before it, a time of −0, or a time constant of 0"
unfoldable pub is_out_of_turn : Option Float → Command → Bool
is_out_of_turn before c = is_earlier before (time_of c) || (is_minus_zero (time_of c) || has_no_constant c)

-- "as making a parameter" (reading 7)
unfoldable pub ranged_as : Result Unit Refusal → List ℕ → Reader → Reader
ranged_as (Ok _) bs r = kept_as bs (made (bounds_in bs) r.rate r.edition) r.store r.before r
ranged_as (Err why) bs r = refused_by (Fault.Own why) r

-- "then each event in turn"
unfoldable pub taken_as : Result Unit Refusal → Called → Float → List ℕ → Reader → Reader
taken_as (Ok _) k t bs r = kept_as bs k.param k.store (Some t) r
taken_as (Err why) k t bs r = refused_by (Fault.Own why) r

-- 28 "before 01's own"
unfoldable pub event_turn : Command → List ℕ → Reader → Reader
event_turn c bs r =
    let k = called r.param r.store c in
    cond (is_out_of_turn r.before c) (refused_by Fault.OutOfTurn r) (taken_as k.verdict k (time_of c) bs r)

unfoldable pub contents_turn : List ℕ → Reader → Reader
contents_turn bs r = cond (is_range bs) (ranged_as (lowest (making_rows (bounds_in bs) r.edition)) bs r) (event_turn (event_in bs) bs r)

-- "the lowest number of one field first"
unfoldable pub field_turn : List ℕ → Reader → Reader
field_turn bs r =
    cond (not (is_tag (tag_of bs))) (refused_by Fault.UnknownTag r)
    (cond (is_wrong bs) (refused_by Fault.WrongLength r)
    (cond (is_misplaced r.ranged bs) (refused_by Fault.Misplaced r)
    (cond (not (is_whole bs)) (refused_by Fault.CutShort r)
    (contents_turn bs r))))

-- ---- a file, which "come[s] through in parts"

-- the reader, and the bytes of a field that has not come whole
pub record Reading : Type 0 where
  pub reader : Reader
  pub rest : List ℕ

-- behind a field that is refused nothing is read
abbrev pub stopped : List ℕ → Reader → Reading
stopped bs r = record { reader = r; rest = cond (is_accepted r.verdict) bs [] }

-- the complete fields in turn, up to one that is refused, and at most n
unfoldable pub taken : ℕ → List ℕ → Reader → Reading
taken zero bs r = stopped bs r
taken (suc n) bs r =
    let more = taken n (drop (field_length bs) bs) (field_turn bs r) in
    cond (is_accepted r.verdict && is_whole bs) more (stopped bs r)

-- one part more
unfoldable pub fed : Reading → List ℕ → Reading
fed s part = let bs = s.rest ++ part in cond (is_accepted s.reader.verdict) (taken (length bs) bs s.reader) s

-- the file's end: 22 "or none by the end (offset the length)"; what is left over is a field "cut short"
unfoldable pub end_turn : List ℕ → Reader → Reader
end_turn [] r = cond r.ranged r (refused_by Fault.Misplaced r)
end_turn (b ∷ bs) r = field_turn (b ∷ bs) r

unfoldable pub at_end : Reading → Reader
at_end s = cond (is_accepted s.reader.verdict) (end_turn s.rest s.reader) s.reader

abbrev pub begun : AutomationRate → ℕ → Reading
begun rate n = record { reader = opened rate n; rest = [] }

-- the file that these parts are, one behind the other
unfoldable pub joined : List (List ℕ) → List ℕ
joined [] = []
joined (part ∷ parts) = part ++ joined parts

unfoldable pub fed_all : Reading → List (List ℕ) → Reading
fed_all s [] = s
fed_all s (part ∷ parts) = fed_all (fed s part) parts

-- a whole file
unfoldable pub read : AutomationRate → ℕ → List ℕ → Reader
read rate n file = at_end (fed (begun rate n) file)

-- what reading gives back
pub record Loaded : Type 0 where
  pub says : Judged
  pub param : Param
  pub store : List Float

-- "A refused reading leaves the parameter and store that the caller had" (reading 7)
unfoldable pub loaded_as : Result Unit Fault → Reader → Param → List Float → Loaded
loaded_as (Ok _) r p store =
    record { says = record { verdict = Ok tt; at = r.offset }; param = r.param; store = r.store }
loaded_as (Err f) r p store =
    record { says = record { verdict = Err f; at = r.offset }; param = p; store = store }

-- a store "of another length is refused with 14 at offset 0, ahead of the file" (reading 8)
abbrev pub bad_store : Judged
bad_store = record { verdict = Err (Fault.Own Refusal.BadStore); at = 0 }

-- by a reader at the file's end; p and the store are the caller's
unfoldable pub loaded : Reader → Param → List Float → Loaded
loaded r p store =
    cond (eqb (length store) store_length) (loaded_as r.verdict r p store) (record { says = bad_store; param = p; store = store })

-- ---- the writer

-- tag, length, contents
abbrev pub field_of : ℕ → List ℕ → List ℕ
field_of tag contents = tag ∷ (bytes_of 2 (length contents) ++ contents)

-- "minimum, default, maximum"
unfoldable pub range_field : Bounds → List ℕ
range_field b = field_of 6 (single_bytes b.min ++ (single_bytes b.default ++ single_bytes b.max))

-- "in the order value, time, time constant or duration"; an event's own numbers are given beside it
unfoldable pub event_field : Event → List Float → List ℕ
event_field (Event.Step v t) xs = field_of 1 (single_bytes v ++ double_bytes t)
event_field (Event.Linear v t h) xs = field_of 2 (single_bytes v ++ double_bytes t)
event_field (Event.Exponential v t h) xs = field_of 3 (single_bytes v ++ double_bytes t)
event_field (Event.Target v t c h) xs = field_of 4 (single_bytes v ++ (double_bytes t ++ double_bytes c))
event_field (Event.Curve s d n h) xs = field_of 5 (double_bytes s ++ (double_bytes d ++ numbers_bytes xs))

-- in queue order
unfoldable pub fields_of : List Waiting → List ℕ
fields_of [] = []
fields_of (w ∷ ws) = event_field w.event w.numbers ++ fields_of ws

-- "The range comes first and once"
unfoldable pub file_of : Bounds → List Waiting → List ℕ
file_of b ws = range_field b ++ fields_of ws

unfoldable pub has_hold : Option Float → Bool
has_hold None = false
has_hold (Some c) = true

-- "a held event"; a step is never one
unfoldable pub is_held : Event → Bool
is_held (Event.Step v t) = false
is_held (Event.Linear v t h) = has_hold h
is_held (Event.Exponential v t h) = has_hold h
is_held (Event.Target v t c h) = has_hold h
is_held (Event.Curve s d n h) = has_hold h

-- 24 "a held event .. or a curve number not finite"
unfoldable pub is_unwritable : Waiting → Bool
is_unwritable w = is_held w.event || not (all_finite w.numbers)

-- the place of an event, counted "from 0 in queue order" (reading 6)
abbrev pub unwritable : ℕ → Judged
unwritable place = record { verdict = Err Fault.Unwritable; at = place }

-- of the events from a place on "the lowest place is given" (reading 10); else how many bytes are to be written
unfoldable pub judged_from : ℕ → List Waiting → ℕ → Judged
judged_from place [] many = record { verdict = Ok tt; at = many }
judged_from place (w ∷ ws) many = let more = judged_from (suc place) ws many in cond (is_unwritable w) (unwritable place) more

-- "14 (place 0) comes first, then 24" (reading 10), of which "a block already answered (place 0)" is looked at first
unfoldable pub judged : Param → List Float → Judged
judged p store =
    let ws = attached p.queue store in
    let many = length (file_of p.bounds ws) in
    cond (not (eqb (length store) store_length)) bad_store (cond (has_played p.last_block) (unwritable 0) (judged_from 0 ws many))

-- what writing gives back
pub record Saved : Type 0 where
  pub says : Judged
  pub out : List ℕ

-- "then the slice too short": "nothing written", and the bytes that it takes are said (reading 10)
unfoldable pub written_to : List ℕ → List ℕ → Saved
written_to out file =
    cond (leb (length file) (length out))
    (record { says = record { verdict = Ok tt; at = length file }; out = file ++ drop (length file) out })
    (record { says = record { verdict = Err Fault.NoRoom; at = length file }; out = out })

unfoldable pub saved_as : Judged → List ℕ → List ℕ → Saved
saved_as j out file = cond (is_accepted j.verdict) (written_to out file) (record { says = j; out = out })

-- over what the slice held
unfoldable pub saved : Param → List Float → List ℕ → Saved
saved p store out = saved_as (judged p store) out (file_of p.bounds (attached p.queue store))
