-- The state that a caller keeps, an array of numbers: which number stands at which place, what is read from it, and what is written.
use Rattle.rules.specs.declared.Finished.{Finished}
use Rattle.std.specs.Prelude.{◌≡◌, Bool, cond, ◌&&◌, List, [], ◌∷◌, ◌++◌, ℕ, zero, suc, ◌+◌, ◌*◌, ◌≤◌, leb, eqb, length, get_or, take, drop, Float, Option, Some, None, Ok}
use Rattle.std.proofs.lemmas.List.Edits.{sets}
use Rattle.std.specs.Float.{binary32, binary64}
use Rattle.std.specs.Float.Ieee.{to_bits}
use Rattle.rules.specs.declared.AutomationRate.{AutomationRate}
use Rattle.rules.specs.declared.AutomationRate.TheVariants as Rate
use Rattle.rules.specs.declared.Event.{Event}
use Rattle.rules.specs.Numbers.{most_events}
use Rattle.rules.specs.Refusals.{is_edition}
use Rattle.rules.specs.Block.{Param, edition_of}
use Rattle.laws.specs.Sound.{is_sound}
use Rattle.laws.specs.Editions.{number_of_edition}
use Rattle.timeline.specs.declared.AudioParamEventTimeline.{AudioParamEventTimeline}
use Rattle.timeline.specs.Timeline.{waiting}
use Rattle.param.specs.declared.AudioParam.{AudioParam}
use Rattle.param.specs.declared.Outcome.{Outcome}
use Rattle.param.specs.Param.{param_of, struct_of, unmade, SoundParam}
use Rattle.words.specs.Words.{single_in, double_in}

-- ---- the layout

-- the layout's version, the parameter's own numbers, then six for each waiting event, at most 64
abbrev pub head_words : ℕ
head_words = 15

abbrev pub event_words : ℕ
event_words = 6

abbrev pub state_length : ℕ
state_length = 399

-- The first number of every state. The first layout, of 395 numbers, had none; the second has the last block's end (02, C-12), the third the edition (C-19).
abbrev pub state_version : ℕ
state_version = 3

-- where the numbers of the i-th event begin
abbrev pub place_of : ℕ → ℕ
place_of i = head_words + event_words * i

-- ---- what is read

-- 0, or the time that follows
unfoldable pub time_in : ℕ → ℕ → Option Float
time_in flag t = cond (eqb flag 0) None (Some (double_in t))

unfoldable pub last_in : ℕ → ℕ → ℕ → Option Finished
last_in flag t v = cond (eqb flag 0) None (Some (record { time = double_in t; value = single_in v }))

-- 0 for A-rate, 1 for K-rate
unfoldable pub rate_in : ℕ → AutomationRate
rate_in n = cond (eqb n 0) Rate.A Rate.K

unfoldable pub is_rate : ℕ → Bool
is_rate n = leb n 1

-- by its kind: 0 step, 1 linear, 2 exponential, 3 target, 4 curve; a number that a kind has not is not read. What has no kind is read as a curve of no numbers, and no parameter has one.
unfoldable pub event_of : ℕ → ℕ → ℕ → ℕ → Option Float → Event
event_of kind value time other hold =
    cond (eqb kind 0) (Event.Step (single_in value) (double_in time))
    (cond (eqb kind 1) (Event.Linear (single_in value) (double_in time) hold)
    (cond (eqb kind 2) (Event.Exponential (single_in value) (double_in time) hold)
    (cond (eqb kind 3) (Event.Target (single_in value) (double_in time) (double_in other) hold)
    (Event.Curve (double_in time) (double_in other) (cond (eqb kind 4) value 0) hold))))

-- the event whose six numbers begin at a place
abbrev pub event_at : List ℕ → ℕ → Event
event_at s at =
    event_of (get_or s at 0) (get_or s (at + 1) 0) (get_or s (at + 2) 0) (get_or s (at + 3) 0) (time_in (get_or s (at + 4) 0) (get_or s (at + 5) 0))

-- the first n events
unfoldable pub events_in : List ℕ → ℕ → List Event
events_in s zero = []
events_in s (suc n) = events_in s n ++ (event_at s (place_of n) ∷ [])

abbrev pub param_in : List ℕ → Param
param_in s =
    record {
      bounds = record { min = single_in (get_or s 1 0); default = single_in (get_or s 2 0); max = single_in (get_or s 3 0) };
      rate = rate_in (get_or s 4 0);
      edition = edition_of (get_or s 5 0);
      intrinsic = single_in (get_or s 6 0);
      queue = events_in s (get_or s 14 0);
      last_block = time_in (get_or s 7 0) (get_or s 8 0);
      last_end = time_in (get_or s 9 0) (get_or s 10 0);
      last = last_in (get_or s 11 0) (get_or s 12 0) (get_or s 13 0);
    }

-- whether a state is one of a parameter: it is of this version, its rate and its edition are known, and what it has passes the tests of the invariant
unfoldable pub is_state : List ℕ → Bool
is_state s =
    eqb (length s) state_length
    && (eqb (get_or s 0 0) state_version && (is_rate (get_or s 4 0) && (is_edition (get_or s 5 0) && (leb (get_or s 14 0) most_events && is_sound (param_in s)))))

-- ---- what is written

unfoldable pub flag_of : Option Float → ℕ
flag_of None = 0
flag_of (Some t) = 1

unfoldable pub bits_of : Option Float → ℕ
bits_of None = 0
bits_of (Some t) = to_bits binary64 t

unfoldable pub rate_word : AutomationRate → ℕ
rate_word Rate.A = 0
rate_word Rate.K = 1

unfoldable pub last_flag : Option Finished → ℕ
last_flag None = 0
last_flag (Some l) = 1

unfoldable pub last_time : Option Finished → ℕ
last_time None = 0
last_time (Some l) = to_bits binary64 l.time

unfoldable pub last_value : Option Finished → ℕ
last_value None = 0
last_value (Some l) = to_bits binary32 l.value

abbrev pub six_words : ℕ → ℕ → ℕ → ℕ → Option Float → List ℕ
six_words kind value time other hold = kind ∷ value ∷ time ∷ other ∷ flag_of hold ∷ bits_of hold ∷ []

unfoldable pub words_of : Event → List ℕ
words_of (Event.Step v t) = six_words 0 (to_bits binary32 v) (to_bits binary64 t) 0 None
words_of (Event.Linear v t h) = six_words 1 (to_bits binary32 v) (to_bits binary64 t) 0 h
words_of (Event.Exponential v t h) = six_words 2 (to_bits binary32 v) (to_bits binary64 t) 0 h
words_of (Event.Target v t c h) = six_words 3 (to_bits binary32 v) (to_bits binary64 t) (to_bits binary64 c) h
words_of (Event.Curve s d n h) = six_words 4 n (to_bits binary64 s) (to_bits binary64 d) h

unfoldable pub words_for : List Event → List ℕ
words_for [] = []
words_for (e ∷ q) = words_of e ++ words_for q

abbrev pub head_of : Param → List ℕ
head_of p =
    state_version ∷ to_bits binary32 p.bounds.min ∷ to_bits binary32 p.bounds.default ∷ to_bits binary32 p.bounds.max ∷ rate_word p.rate
    ∷ number_of_edition p.edition ∷ to_bits binary32 p.intrinsic ∷ flag_of p.last_block ∷ bits_of p.last_block ∷ flag_of p.last_end ∷ bits_of p.last_end
    ∷ last_flag p.last ∷ last_time p.last ∷ last_value p.last ∷ length p.queue ∷ []

-- the state s with a parameter written over it: the numbers behind its events stay
unfoldable pub state_of : Param → List ℕ → List ℕ
state_of p s = head_of p ++ words_for p.queue ++ drop (place_of (length p.queue)) s

-- numbers written over those from a place on
abbrev pub written_at : List ℕ → ℕ → List ℕ → List ℕ
written_at s at ws = take at s ++ ws ++ drop (at + length ws) s

-- ---- what the functions ensure

-- a time's bits give it back
pub record TimeBits (t : Option Float) (n : ℕ) : Type 0 where
  pub is : n ≡ bits_of t
  pub back : time_in (flag_of t) (bits_of t) ≡ t

-- six numbers of an event are written, and its time and its hold time are given back
pub record PutsWords (s : List ℕ) (at kind word : ℕ) (time : Float) (other : ℕ) (hold : Option Float) (after : List ℕ) : Type 0 where
  pub is : after ≡ written_at s at (six_words kind word (to_bits binary64 time) other hold)
  pub time_back : double_in (to_bits binary64 time) ≡ time
  pub hold_back : time_in (flag_of hold) (bits_of hold) ≡ hold

-- an event's six numbers are written, and give it back
pub record PutsEvent (s : List ℕ) (at : ℕ) (e : Event) (after : List ℕ) : Type 0 where
  pub is : after ≡ written_at s at (words_of e)
  pub back : event_at (words_of e) 0 ≡ e

-- the last event's three numbers
pub record PutsLast (s : List ℕ) (l : Option Finished) (after : List ℕ) : Type 0 where
  pub is : after ≡ sets s 11 (last_flag l ∷ last_time l ∷ last_value l ∷ [])
  pub back : last_in (last_flag l) (last_time l) (last_value l) ≡ l

-- all but the events is written, and given back
pub record PutsHead (s : List ℕ) (p : Param) (after : List ℕ) : Type 0 where
  pub is : after ≡ head_of p ++ drop head_words s
  pub min : single_in (to_bits binary32 p.bounds.min) ≡ p.bounds.min
  pub default : single_in (to_bits binary32 p.bounds.default) ≡ p.bounds.default
  pub max : single_in (to_bits binary32 p.bounds.max) ≡ p.bounds.max
  pub intrinsic : single_in (to_bits binary32 p.intrinsic) ≡ p.intrinsic
  pub block : time_in (flag_of p.last_block) (bits_of p.last_block) ≡ p.last_block
  pub end : time_in (flag_of p.last_end) (bits_of p.last_end) ≡ p.last_end
  pub last : last_in (last_flag p.last) (last_time p.last) (last_value p.last) ≡ p.last

-- the events of a state, in a queue whose other slots do not count; more than 64 are not read
pub record Queues (s : List ℕ) (q : AudioParamEventTimeline) : Type 0 where
  pub many : q.len ≡ get_or s 14 0
  pub events : q.len ≤ most_events → waiting q ≡ events_in s (get_or s 14 0)

-- a state gives its parameter, or is refused as bad bounds are
pub record Decodes (s : List ℕ) (r : Outcome) : Type 0 where
  pub gives : r ≡ cond (is_state s) (record { verdict = (Ok tt); param = struct_of (param_in s) }) unmade
  pub sound : SoundParam r.param

-- a parameter is written over a state, which then gives it back
pub record Encodes (p : AudioParam) (s after : List ℕ) : Type 0 where
  pub is : after ≡ state_of (param_of p) s
  pub back : param_in after ≡ param_of p
