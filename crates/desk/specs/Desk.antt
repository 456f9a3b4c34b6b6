-- What the calls of a session do, and what is answered: the page's table over document 01's rules.
use Rattle.card.specs.declared.Fault.{Fault}
use Rattle.rules.specs.declared.Refusal.{Refusal}
use Rattle.std.specs.Prelude.{◌≡◌, Bool, true, false, List, [], ◌∷◌, ◌++◌, ℕ, ◌+◌, ◌*◌, ◌≤◌, ◌<◌, length, take, drop, set, replicate, Float, Option, None, Some, Result, Ok, Err}
use Rattle.std.specs.Float.{binary32}
use Rattle.std.specs.Float.Ieee.{of_bits}
use Rattle.rules.specs.declared.Bounds.{Bounds}
use Rattle.rules.specs.declared.AutomationRate.{AutomationRate}
use Rattle.rules.specs.declared.Event.{Event}
use Rattle.rules.specs.Numbers.{plus_zero, store_length}
use Rattle.rules.specs.Queue.{attached, length_of, lengths_of}
use Rattle.rules.specs.Refusals.{lowest, making_rows}
use Rattle.rules.specs.Block.{Param, made, Command, called, answered}
use Rattle.rules.specs.Block as rule
use Rattle.text.specs.Put.{Put}
use Rattle.calls.specs.Language.{Said, call_of}
use Rattle.calls.specs.declared.Call.{Call}
use Rattle.answers.specs.Answers.{verdict_text, saved_text, fault_text, block_text, rest_text, state_text, event_text, list_text, zeros_text, are_marks, are_zeros}
use Rattle.costs.specs.declared.Totals.{Totals}
use Rattle.costs.specs.Costs.{waiting_in, nothing, plus, command_cost, block_cost}
use Rattle.costs.specs.Seen.{command_seen, block_seen}
use Rattle.tally.specs.Tally.{kept}
use Rattle.param.specs.declared.AudioParam.{AudioParam}
use Rattle.param.specs.declared.Outcome.{Outcome}
use Rattle.param.specs.declared.Processed.{Processed}
use Rattle.param.specs.Param.{param_of, struct_of, nothing_made, SoundParam}
use Rattle.card.specs.declared.Judged.{Judged}
use Rattle.card.specs.Card.{fault_number, Reader, begun, fed, read, Loaded, loaded, file_of, judged}
use Rattle.card_reader.specs.declared.CardReader.{CardReader}
use Rattle.card_reader.specs.Reader.{reading_of, SoundReader, SoundWindow}
use Rattle.desk.specs.declared.Desk.{Desk}
use Rattle.desk.specs.declared.Answered.{Answered}

-- ---- what a session has at hand

-- the parameter, "a fixed array of 8192" numbers, how many of its first are lent, and what the calls have cost since the last `make` (02, C-20; up to 2^64 − 1)
pub record Table : Type 0 where
  pub param : Param
  pub lent : ℕ
  pub store : List Float
  pub totals : Totals

-- a call's effect, and its answer without the newline
pub record Turn : Type 0 where
  pub table : Table
  pub text : List ℕ

abbrev pub unchanged : List ℕ → Table → Turn
unchanged text t = record { table = t; text = text }

-- "Before the first `make`, the parameter is what refusal 1 returns", and 4096 are lent
abbrev pub unmade_desk : Desk
unmade_desk = record { param = struct_of nothing_made; lent = store_length; totals = nothing }

-- ---- the calls

-- `unread`
unfoldable pub unread : Table → Turn
unread = unchanged (117 ∷ 110 ∷ 114 ∷ 101 ∷ 97 ∷ 100 ∷ [])

-- "A `make`, refused too, sets all 8192 numbers to +0 and lends 4096 again, and the parameter is then what it returned."
unfoldable pub making : Bounds → AutomationRate → ℕ → Table → Turn
making b rate n t =
    record {
      table = record { param = made b rate n; lent = store_length; store = replicate 8192 plus_zero; totals = nothing };
      text = verdict_text (lowest (making_rows b n));
    }

-- a scheduling or cancelling call; the numbers behind those that are lent stay
unfoldable pub asked : Command → Table → Turn
asked c t =
    let r = called t.param (take t.lent t.store) c in
    record {
      table =
          record {
            param = r.param;
            lent = t.lent;
            store = r.store ++ drop t.lent t.store;
            totals = kept (plus t.totals (command_cost t.param r c));
          };
      text = verdict_text r.verdict;
    }

-- `ok`
unfoldable pub lending : ℕ → Table → Turn
lending n t =
    record {
      table = record { param = t.param; lent = n; store = t.store; totals = t.totals };
      text = verdict_text (Ok tt);
    }

-- "put V at place I of that array"
unfoldable pub poking : ℕ → Float → Table → Turn
poking i v t =
    record {
      table = record { param = t.param; lent = t.lent; store = set t.store i v; totals = t.totals };
      text = verdict_text (Ok tt);
    }

-- ---- the block

-- `block STEPS CURRENT ONE S1 .. SCOUNT REST`; or `refused NUMBER REST`, "REST being over the whole output"
unfoldable pub block_line : Result Unit Refusal → ℕ → ℕ → Float → Bool → List Float → List ℕ
block_line (Ok _) count steps current one output =
    block_text steps current one ++ (list_text 32 32 (take count output) ++ rest_text (are_marks (drop count output)))
block_line (Err why) count steps current one output = verdict_text (Err why) ++ rest_text (are_marks output)

-- a block with this output lent, by either renderer; the numbers of the store behind those that are lent stay
unfoldable pub playing : Float → Float → ℕ → List Float → List Float → Table → Turn
playing time period count input output t =
    let a = answered t.param (take t.lent t.store) (record { time = time; period = period; count = count; input = input; output = output }) in
    record {
      table =
          record {
            param = a.param;
            lent = t.lent;
            store = a.store ++ drop t.lent t.store;
            totals = kept (plus t.totals (block_cost a));
          };
      text = block_line a.verdict count a.steps a.current a.one_valued a.output;
    }

-- an output of n places, each with "the mark that was put there before the call (`4b000000`)"
unfoldable pub marks : ℕ → List Float
marks n = replicate n (of_bits binary32 0x4b000000)

-- ---- the state

-- a waiting event, its numbers being the first of s: the first behind a colon, the others behind commas
unfoldable pub waiting_text : Event → List Float → List ℕ
waiting_text e s = event_text e ++ list_text 58 44 (take (length_of e) s)

-- "each in queue order", "a curve's numbers as they stand in the store"
unfoldable pub queue_text : List Event → List Float → List ℕ
queue_text [] s = []
queue_text (e ∷ es) s = waiting_text e s ++ queue_text es (drop (length_of e) s)

-- "`zeros` where every number of the first 4096 behind the curves is +0"
unfoldable pub state_line : Param → List Float → List ℕ
state_line p s =
    state_text p.rate p.edition p.bounds p.intrinsic p.last_block p.last_end p.last (length p.queue)
    ++ (queue_text p.queue s ++ zeros_text (are_zeros (drop (lengths_of p.queue) (take store_length s))))

unfoldable pub stating : Table → Turn
stating t = unchanged (state_line t.param t.store) t

-- ---- a schedule file (02, C-11)

-- "`saved HEX`, or `refused 24 PLACE`"
unfoldable pub file_line : Result Unit Fault → ℕ → List ℕ → List ℕ
file_line (Ok _) place file = saved_text file
file_line (Err f) place file = fault_text (fault_number f) place

abbrev pub saved_line : Judged → List ℕ → List ℕ
saved_line j file = file_line j.verdict j.at file

-- "write the parameter as a schedule file", "The first 4,096 numbers of the array are lent, whatever `lend` says"
unfoldable pub saving : Table → Turn
saving t =
    let lent = take store_length t.store in
    unchanged (saved_line (judged t.param lent) (file_of t.param.bounds (attached t.param.queue lent))) t

-- each event of a file is an accepted call: so many are stored (C-20)
abbrev pub events_stored : ℕ → Totals
events_stored n = record { steps = 0; blocks = 0; stored = n; finished = 0; cancelled = 0; turned = 0 }

-- "Answered, it is as a `make` (all 8,192 numbers cleared, 4,096 lent) and the events. Refused, nothing changes."
unfoldable pub loaded_turn : Result Unit Fault → Loaded → Table → Turn
loaded_turn (Ok _) l t =
    record {
      table =
          record {
            param = l.param;
            lent = store_length;
            store = l.store ++ replicate store_length plus_zero;
            totals = kept (events_stored (waiting_in l.param));
          };
      text = verdict_text (Ok tt);
    }
loaded_turn (Err f) l t = unchanged (fault_text (fault_number f) l.says.at) t

-- by a reader at the file's end
unfoldable pub loading_by : Reader → Table → Turn
loading_by r t = let l = loaded r t.param (take store_length t.store) in loaded_turn l.says.verdict l t

-- "read a schedule file .. into a new parameter of that rate", in whatever parts it comes
unfoldable pub loading : AutomationRate → ℕ → List ℕ → Table → Turn
loading rate n file = loading_by (read rate n file)

-- ---- a line

-- the numbers of a curve, or of a block's input, are the first of `numbers`, a file's bytes the first of `file`
unfoldable pub answer_of : Call → List Float → List ℕ → Table → Turn
answer_of Call.Nothing numbers file = unchanged []
answer_of (Call.Make b rate n) numbers file = making b rate n
answer_of (Call.Set v) numbers file = asked (rule.set v)
answer_of (Call.Step v t) numbers file = asked (rule.step v t)
answer_of (Call.Linear v t) numbers file = asked (rule.linear v t)
answer_of (Call.Exponential v t) numbers file = asked (rule.exponential v t)
answer_of (Call.Target v t c) numbers file = asked (rule.target v t c)
answer_of (Call.Curve t d n) numbers file = asked (rule.curve t d (take n numbers))
answer_of (Call.Cancel t) numbers file = asked (rule.cancel t)
answer_of (Call.Hold t) numbers file = asked (rule.hold t)
answer_of (Call.Block by t p n o i) numbers file = playing t p n (take i numbers) (marks o)
answer_of (Call.Lend n) numbers file = lending n
answer_of (Call.Poke i v) numbers file = poking i v
answer_of Call.State numbers file = stating
answer_of Call.Save numbers file = saving
answer_of (Call.Load part n rate edition) numbers file = loading rate edition (take n file)

-- what a line says, or that it is none of these
unfoldable pub said_turn : Option Said → Table → Turn
said_turn None = unread
said_turn (Some s) = answer_of s.0 s.1 s.2

unfoldable pub with_newline : (Table → Turn) → Table → Turn
with_newline turn t = record { table = (turn t).table; text = (turn t).text ++ (10 ∷ []) }

-- "each line gets exactly one line of answer"
unfoldable pub line_turn : List ℕ → Table → Turn
line_turn line = with_newline (said_turn (call_of line))

-- ---- what the code keeps and ensures

abbrev pub desk_of : AudioParam → ℕ → Totals → Desk
desk_of p n t = record { param = p; lent = n; totals = t }

-- the totals behind a call that left this parameter, and behind a block
abbrev pub after_command : Desk → AudioParam → Totals
after_command d after = kept (plus d.totals (command_seen (waiting_in (param_of d.param)) (waiting_in (param_of after))))

abbrev pub after_block : Desk → Processed → Totals
after_block d r = kept (plus d.totals (block_seen r.verdict r.steps (waiting_in (param_of d.param)) (waiting_in (param_of r.param))))

-- a desk that these calls leave
pub record SoundDesk (d : Desk) : Type 0 where
  pub param : SoundParam d.param
  pub lent : d.lent ≤ 8192

abbrev pub table_of : Desk → List Float → Table
table_of d s = record { param = param_of d.param; lent = d.lent; store = s; totals = d.totals }

-- what was told: the desk, and the verdict's text in the buffer
abbrev pub Told : Outcome → ℕ → Totals → List ℕ → ℕ → Answered → List ℕ → Type 0
Told o lent totals l at t l' =
    (t.desk ≡ desk_of o.param lent totals) × Put l at (verdict_text o.verdict) l' t.next × (t.next ≤ at + 28)

-- a call, by its effect, in at most so many characters: from the desk d, the store s and the buffer l, written from `at` on, to what r says, the store s' and the buffer l'
pub record Spoken (most : ℕ) (turn : Table → Turn) (d : Desk) (s : List Float) (l : List ℕ) (at : ℕ) (r : Answered) (s' : List Float) (l' : List ℕ) : Type 0 where
  pub param : r.desk.param ≡ struct_of (turn (table_of d s)).table.param
  pub lent : r.desk.lent ≡ (turn (table_of d s)).table.lent
  pub store : s' ≡ (turn (table_of d s)).table.store
  pub totals : r.desk.totals ≡ (turn (table_of d s)).table.totals
  pub text : Put l at (turn (table_of d s)).text l' r.next
  pub sound : SoundDesk r.desk
  pub room : r.next ≤ at + most

-- a whole file is read, part by part
pub record ReadsFile (rate : AutomationRate) (n : ℕ) (file : List ℕ) (r : CardReader) (numbers : List Float) (window : List ℕ) : Type 0 where
  pub reading : reading_of r numbers window ≡ fed (begun rate n) file
  pub sound : SoundReader r numbers
  pub fits : SoundWindow r window

-- the ranges of the page, as far as the code counts on them
unfoldable pub InRange : Call → Type 0
InRange Call.Nothing = Unit
InRange (Call.Make b rate n) = Unit
InRange (Call.Set v) = Unit
InRange (Call.Step v t) = Unit
InRange (Call.Linear v t) = Unit
InRange (Call.Exponential v t) = Unit
InRange (Call.Target v t c) = Unit
InRange (Call.Curve t d n) = n ≤ 5000
InRange (Call.Cancel t) = Unit
InRange (Call.Hold t) = Unit
InRange (Call.Block by t p n o i) = (o ≤ 4096) × (i ≤ 4096)
InRange (Call.Lend n) = n ≤ 8192
InRange (Call.Poke i v) = i < 8192
InRange Call.State = Unit
InRange Call.Save = Unit
InRange (Call.Load part n rate edition) = (1 ≤ part) × (part ≤ 65536) × (n ≤ 30000)

-- whether a call is one of those that change the waiting events
unfoldable pub is_scheduling : Call → Bool
is_scheduling Call.Nothing = false
is_scheduling (Call.Make b rate n) = false
is_scheduling (Call.Set v) = true
is_scheduling (Call.Step v t) = true
is_scheduling (Call.Linear v t) = true
is_scheduling (Call.Exponential v t) = true
is_scheduling (Call.Target v t c) = true
is_scheduling (Call.Curve t d n) = true
is_scheduling (Call.Cancel t) = true
is_scheduling (Call.Hold t) = true
is_scheduling (Call.Block by t p n o i) = false
is_scheduling (Call.Lend n) = false
is_scheduling (Call.Poke i v) = false
is_scheduling Call.State = false
is_scheduling Call.Save = false
is_scheduling (Call.Load part n rate edition) = false

-- the event at place i, as it is printed, and the room that it takes
unfoldable pub first_text : List Event → List Float → List ℕ
first_text [] s = []
first_text (e ∷ es) s = waiting_text e s

unfoldable pub waiting_at : List Event → ℕ → List Float → List ℕ
waiting_at q i s = first_text (drop i q) (drop (lengths_of (take i q)) s)

unfoldable pub width_at : List Event → ℕ → ℕ
width_at q i = 78 + 9 * lengths_of (take 1 (drop i q))
