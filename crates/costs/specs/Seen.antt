-- A call's cost as it is seen from outside: from its verdict, the steps that it reports and how many events wait before and after it. No code reports the walk's counts.
use Rattle.rules.specs.declared.Refusal.{Refusal}
use Rattle.std.specs.Prelude.{ℕ, suc, ◌-◌, Result, Ok, Err}
use Rattle.costs.specs.declared.Totals.{Totals}
use Rattle.costs.specs.Costs.{nothing}

-- a command: where more events wait than before, one was stored; where fewer do, these were cancelled
unfoldable pub command_seen : ℕ → ℕ → Totals
command_seen before after =
    record { steps = 0; blocks = 0; stored = after - before; finished = 0; cancelled = before - after; turned = 0 }

-- a block: what waits no longer was finished; a step that neither finished an event nor ended the walk was an exponential's turn
unfoldable pub block_seen : Result Unit Refusal → ℕ → ℕ → ℕ → Totals
block_seen (Ok _) steps before after =
    record {
      steps = steps;
      blocks = 1;
      stored = 0;
      finished = before - after;
      cancelled = 0;
      turned = steps - suc (before - after);
    }
block_seen (Err r) steps before after = nothing
