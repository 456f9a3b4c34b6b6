-- Running totals as a machine keeps them, and their words.
use Rattle.std.specs.Prelude.{cond, List, ◌++◌, ℕ, leb}
use Rattle.text.specs.Digits.{decimal_of}
use Rattle.decimal.specs.Codes.{codes}
use Rattle.costs.specs.declared.Totals.{Totals}
use Rattle.costs.specs.Costs.{most_steps}

-- ---- counting

-- the largest number that is counted to, 2^64 − 1
abbrev pub largest : ℕ
largest = 18446744073709551615

-- a number up to it; from there on it stands still
unfoldable pub capped : ℕ → ℕ
capped n = cond (leb n largest) n largest

unfoldable pub kept : Totals → Totals
kept t =
    record {
      steps = capped t.steps;
      blocks = capped t.blocks;
      stored = capped t.stored;
      finished = capped t.finished;
      cancelled = capped t.cancelled;
      turned = capped t.turned;
    }

-- ---- words

-- a number and the words behind it
abbrev pub part : ℕ → List ℕ → List ℕ
part n words = decimal_of n ++ words

-- 02's first sum
unfoldable pub steps_text : Totals → List ℕ
steps_text t =
    codes "cost "
    ++ (part t.steps (codes " steps = ")
    ++ (part t.blocks (codes " blocks answered + ") ++ (part t.finished (codes " events finished + ") ++ part t.turned (codes " exponentials turned; "))))

-- its second, and the bound
unfoldable pub events_text : Totals → ℕ → List ℕ
events_text t waiting =
    part t.stored (codes " events stored = ")
    ++ (part t.finished (codes " finished + ")
    ++ (part t.cancelled (codes " cancelled + ") ++ (part waiting (codes " waiting; at most ") ++ part (capped (most_steps t)) (codes " steps"))))

unfoldable pub cost_text : Totals → ℕ → List ℕ
cost_text t waiting = steps_text t ++ events_text t waiting
