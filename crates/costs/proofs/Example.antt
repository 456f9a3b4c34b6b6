-- Two sessions whose totals the checker computes: one that reaches the bound, and one with each kind of call, refused ones among them.
use mathlib.Core.Path.{◌≡◌, refl}
use mathlib.Core.List.{List, [], ◌∷◌}
use Prim.Native.Nat.{ℕ}
use lib.ListN.{replicate}
use lib.Ieee.{Float, nan}
use Rattle.rules.specs.declared.AutomationRate.TheVariants as Rate
use Rattle.rules.specs.Numbers.{store_length, plus_zero}
use Rattle.rules.specs.Block.{Param, made, step, linear, exponential, cancel, hold}
use Rattle.rules.proofs.Table.{results, bounds, n0, n1, n2, n3, n4, n5, n7, n9, n10, minus10}
use Rattle.costs.specs.declared.Totals.{Totals}
use Rattle.costs.specs.Costs as Costs
use Rattle.costs.specs.Costs.{Asked, command, block, left_by_all, waiting_in, totals, most_steps}

abbrev start : Param
start = made (bounds minus10 n0 n10) Rate.A 1

abbrev zeros : List Float
zeros = replicate store_length plus_zero

-- so many places from t on, with silence
abbrev block_of : Float → ℕ → Asked
block_of t n = block zeros (record { time = t; period = n1; count = n; input = []; output = replicate n nan })

-- its line names all that is computed here; `results` stands for the rules
unfoldable cost : List Asked → Totals
unfolding results Costs.left Costs.left_by_all Costs.once_answered Costs.storing Costs.cancelling Costs.command_cost Costs.block_cost Costs.cost_of Costs.plus Costs.totals Costs.most_steps
cost calls = totals start calls

-- ---- an exponential from 0: it has no ratio, so the walk turns it into a step, finishes that, and finds the queue empty

abbrev dear : List Asked
dear = command [] (exponential n5 n1) ∷ block_of n0 2 ∷ []

dear_costs : cost dear ≡ record { steps = 3; blocks = 1; stored = 1; finished = 1; cancelled = 0; turned = 1 }
unfolding cost
dear_costs = refl

pub the_bound_is_reached : (totals start dear).steps ≡ most_steps (totals start dear)
unfolding cost
the_bound_is_reached = refl

-- ---- four events: the cancel takes the ramp at 10, the hold the step at 9, the block finishes the step at 1, and the ramp to 4 waits. A step to NaN and a block of no
-- places are refused, and so is a block that is lent no store.

abbrev mixed : List Asked
mixed =
    command [] (step n5 n1)
    ∷ command [] (linear n3 n4)
    ∷ command [] (step n7 n9)
    ∷ command [] (linear n1 n10)
    ∷ command [] (step nan n2)
    ∷ command zeros (cancel n10)
    ∷ command zeros (hold n5)
    ∷ block_of n0 2
    ∷ block_of n2 0
    ∷ block [] (record { time = n2; period = n1; count = 1; input = []; output = nan ∷ [] })
    ∷ []

mixed_costs : cost mixed ≡ record { steps = 2; blocks = 1; stored = 4; finished = 1; cancelled = 2; turned = 0 }
unfolding cost
mixed_costs = refl

one_waits : waiting_in (left_by_all start mixed) ≡ 1
unfolding cost
one_waits = refl
