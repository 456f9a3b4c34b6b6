-- Lines of an input that comes in pieces, by what a buffer holds of it.
use Rattle.std.specs.Prelude.{Bool, true, false, cond, ◌||◌, List, ℕ, ◌+◌, ◌-◌, ◌≤◌, eqb, length, take, drop, Option, None, Some}
use Rattle.scan.specs.Bytes.{index_of, slice}
use Rattle.text.specs.Put.{put}
use Rattle.lines.specs.declared.Lines.{Lines}
use Rattle.lines.specs.declared.Line.{Line}
use Rattle.lines.specs.declared.Taken.{Taken}

-- the bytes that are not yet taken lie in the buffer
pub record Within (buf : List ℕ) (l : Lines) : Type 0 where
  pub ordered : l.from ≤ l.to
  pub inside : l.to ≤ length buf

-- a line that was taken lies in the buffer, too
abbrev pub LineIn : List ℕ → Option Line → Type 0
LineIn buf (Some (Line.At from to)) = (from ≤ to) × (to ≤ length buf)
LineIn buf (Some Line.Long) = Unit
LineIn buf None = Unit

-- the place of the first newline (10), or where the bytes end
abbrev pub line_end : List ℕ → Lines → ℕ
line_end buf l = l.from + index_of 10 (slice l.from l.to buf)

-- the line before the first newline, and what is behind it
abbrev pub next_of : List ℕ → Lines → Taken
next_of buf l =
    let end = line_end buf l in
    cond (eqb end l.to) (record { line = None; lines = l })
    (record { line = Some (cond l.long Line.Long (Line.At l.from end)); lines = record { from = end + 1; to = l.to; long = false } })

-- at the end of the input: "A last line without its newline is read."
abbrev pub last_of : Lines → Option Line
last_of l = cond l.long (Some Line.Long) (cond (eqb l.from l.to) None (Some (Line.At l.from l.to)))

-- the line goes on, and the buffer has no room for it
abbrev pub is_long : List ℕ → Lines → Bool
is_long buf l = l.long || eqb (l.to - l.from) (length buf)

abbrev pub left_of : List ℕ → Lines → Lines
left_of buf l = cond (is_long buf l) (record { from = 0; to = 0; long = true }) (record { from = 0; to = l.to - l.from; long = false })

abbrev pub moved_of : List ℕ → Lines → List ℕ
moved_of buf l = cond (is_long buf l) buf (put buf 0 (take (l.to - l.from) (drop l.from buf)))
