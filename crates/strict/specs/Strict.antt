-- What goes on from line to line.
use Rattle.std.specs.Prelude.{List, ℕ, ◌+◌, ◌*◌, ◌≤◌, length}
use Rattle.lines.specs.declared.Lines.{Lines}
use Rattle.lines.specs.Lines.{Within}

-- it can go on: the lines that are left, and the lengths of the buffers; a translation takes up to 17 characters for each of a line
pub record Going (l : Lines) (input strict : List ℕ) : Type 0 where
  pub lines : Within input l
  pub input_long : length input ≤ 65536
  pub strict_long : 21 + 17 * 65536 ≤ length strict
