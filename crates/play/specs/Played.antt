-- What is done with a line as a person writes it, and what is answered.
use Rattle.std.specs.Prelude.{◌≡◌, cond, List, ◌++◌, ℕ, ◌+◌, ◌*◌, ◌≤◌, length, Float, Option, None, Some}
use Rattle.rules.specs.declared.Event.{Event}
use Rattle.costs.specs.Costs.{waiting_in}
use Rattle.tally.specs.Tally.{cost_text}
use Rattle.text.specs.Digits.{decimal_of}
use Rattle.text.specs.Words.{same_word}
use Rattle.calls.specs.Language.{Said, call_of}
use Rattle.decimal.specs.Codes.{codes}
use Rattle.wording.specs.Plain.{translation}
use Rattle.replies.specs.Plain.{reply}
use Rattle.clashes.specs.declared.Clash.{Clash}
use Rattle.clashes.specs.Clashes.{clash_of, clash_text}
use Rattle.lines.specs.declared.Lines.{Lines}
use Rattle.lines.specs.Lines.{Within}
use Rattle.desk.specs.declared.Desk.{Desk}
use Rattle.desk.specs.Desk.{Table, Turn, unchanged, said_turn, SoundDesk}

-- ---- a line

unfoldable pub not_read : ℕ → List ℕ
not_read n = codes "line " ++ (decimal_of n ++ codes " is not read: no call, or a number out of reach")

-- what a line runs into, these events waiting
unfoldable pub clash_in : List Event → Option Said → Option Clash
clash_in q None = None
clash_in q (Some s) = clash_of q (Some s.0)

-- an answer of the session language for a person; for `unread`, which line it is, and for `refused 11`, what is in the way
unfoldable pub told : ℕ → Option Clash → List ℕ → List ℕ
told n clash answer =
    cond (same_word answer (codes "unread")) (not_read n) (cond (same_word answer (codes "refused 11")) (answer ++ clash_text clash) (reply answer))

-- the n-th line, in the session language
unfoldable pub strict_turn : ℕ → List ℕ → Table → Turn
strict_turn n line t =
    let r = said_turn (call_of line) t in
    record { table = r.table; text = told n (clash_in t.param.queue (call_of line)) r.text }

-- `cost`: the totals of the calls since the last `make`, in words
unfoldable pub cost_turn : Table → Turn
cost_turn t = unchanged (cost_text t.totals (waiting_in t.param)) t

-- the n-th line, translated; `cost` is no word of the session language
unfoldable pub read_turn : ℕ → List ℕ → Table → Turn
read_turn n line = cond (same_word line (codes "cost")) cost_turn (strict_turn n line)

unfoldable pub translated_turn : ℕ → Option (List ℕ) → Table → Turn
translated_turn n None = unchanged (not_read n)
translated_turn n (Some line) = read_turn n line

-- the n-th line, as a person writes it
unfoldable pub plain_turn : ℕ → List ℕ → Table → Turn
plain_turn n line = translated_turn n (translation line)

-- ---- what goes on from line to line

-- the lengths of the buffers that are lent; a translation takes up to 17 characters for each of a line
pub record Lent (input strict : List ℕ) (numbers store : List Float) (said out : List ℕ) : Type 0 where
  pub input_long : length input ≤ 65536
  pub strict_long : 21 + 17 * 65536 ≤ length strict
  pub numbers_long : 5000 ≤ length numbers
  pub store_long : length store ≡ 8192
  pub said_long : 42000 ≤ length said
  pub out_long : 168200 ≤ length out

-- it can go on: the desk, the lines that are left, and how many characters wait to be written
pub record Going (d : Desk) (l : Lines) (n : ℕ) (input strict : List ℕ) (numbers store : List Float) (said out : List ℕ) : Type 0 where
  pub desk : SoundDesk d
  pub lines : Within input l
  pub at : n ≤ length out
  pub lent : Lent input strict numbers store said out
