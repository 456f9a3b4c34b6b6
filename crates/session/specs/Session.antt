-- What a session does with its lines, and what it keeps from one to the next.
use Rattle.std.specs.Prelude.{◌≡◌, List, [], ◌++◌, ℕ, zero, suc, ◌-◌, ◌≤◌, length, take, drop, Float, Option, None, Some}
use Rattle.lines.specs.declared.Lines.{Lines}
use Rattle.lines.specs.declared.Line.{Line}
use Rattle.lines.specs.Lines.{Within, next_of}
use Rattle.desk.specs.declared.Desk.{Desk}
use Rattle.desk.specs.Desk.{SoundDesk, Table, Turn, Spoken, unchanged, unread, with_newline, line_turn}

-- ---- what is done

-- with a line; "a line that is none of these", as one that is too long: `unread`
unfoldable pub next_turn : List ℕ → Option Line → Table → Turn
next_turn input (Some (Line.At from to)) = line_turn (take (to - from) (drop from input))
next_turn input (Some Line.Long) = with_newline unread
next_turn input None = unchanged []

-- one thing behind another, and its text behind the other's
unfoldable pub and_then : (Table → Turn) → (Table → Turn) → Table → Turn
and_then f g t = record { table = (g (f t).table).table; text = (f t).text ++ (g (f t).table).text }

-- the bytes behind the first n lines
unfoldable pub lines_left : ℕ → List ℕ → Lines → Lines
lines_left zero input l = l
lines_left (suc n) input l = (next_of input (lines_left n input l)).lines

-- with the first n lines, "in order"
unfoldable pub lines_turn : ℕ → List ℕ → Lines → Table → Turn
lines_turn zero input l = unchanged []
lines_turn (suc n) input l = and_then (lines_turn n input l) (next_turn input (next_of input (lines_left n input l)).line)

-- ---- what is kept and ensured

-- the lengths of the buffers that are lent
pub record Lent (numbers : List Float) (file : List ℕ) (store : List Float) (out : List ℕ) : Type 0 where
  pub numbers_long : length numbers ≡ 5000
  pub file_long : length file ≡ 30000
  pub store_long : length store ≡ 8192
  pub out_long : 42000 ≤ length out

-- a session that can go on: its desk, the lines that are left, and how many characters wait to be written
pub record Going (d : Desk) (l : Lines) (n : ℕ) (input : List ℕ) (numbers : List Float) (file : List ℕ) (store : List Float) (out : List ℕ) : Type 0 where
  pub desk : SoundDesk d
  pub lines : Within input l
  pub at : n ≤ length out
  pub lent : Lent numbers file store out

-- some lines are answered: from the desk d, the lines l and the buffer `out`, written from n on, to d', l', n' and out'
pub record Through (input : List ℕ) (d : Desk) (l : Lines) (n : ℕ) (store : List Float) (out : List ℕ) (d' : Desk) (l' : Lines) (n' : ℕ) (store' : List Float) (out' : List ℕ) : Type 0 where
  pub count : ℕ
  pub spoken : Spoken (length out) (lines_turn count input l) d store out n (record { desk = d'; next = n' }) store' out'
  pub left : l' ≡ lines_left count input l
