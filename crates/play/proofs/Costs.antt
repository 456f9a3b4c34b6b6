-- C-20's sums hold of what `cost` prints: no line loses count. Assumes nothing.
use mathlib.Core.Bool.{Bool, true, false, cond}
use mathlib.Core.List.{List}
use Rattle.std.specs.Prelude.{Option, None, Some}
use Prim.Native.Nat.{ℕ}
use Rattle.text.specs.Words.{same_word}
use Rattle.calls.specs.Language.{call_of}
use Rattle.decimal.specs.Codes.{codes}
use Rattle.wording.specs.Plain.{translation}
use Rattle.desk.specs.Desk.{Table}
use Rattle.desk.proofs.Costs.{Counts, line_counts}
use Rattle.play.specs.Played.{cost_turn, strict_turn, read_turn, translated_turn, plain_turn}

read_counts : (n : ℕ) (line : List ℕ) (t : Table) → Counts t → Counts (read_turn n line t).table
unfolding read_turn cost_turn strict_turn
read_counts n line t k = go (same_word line (codes "cost"))
  where
    go : (b : Bool) → Counts (cond b cost_turn (strict_turn n line) t).table
    go true = k
    go false = line_counts (call_of line) t k

-- behind every line the table has the totals of the calls since the last `make` (desk's `desk_sums`)
pub plain_counts : (n : ℕ) (line : List ℕ) (t : Table) → Counts t → Counts (plain_turn n line t).table
unfolding plain_turn translated_turn
plain_counts n line t k = go (translation line)
  where
    go : (o : Option (List ℕ)) → Counts (translated_turn n o t).table
    go None = k
    go (Some strict) = read_counts n strict t k
