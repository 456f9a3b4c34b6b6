-- What a block is asked, and what it writes.
use Rattle.std.specs.Prelude.{◌≡◌, true, List, ◌++◌, ℕ, ◌≤◌, length, drop, Float}
use Rattle.rules.specs.declared.Bounds.{Bounds}
use Rattle.rules.specs.declared.AutomationRate.TheVariants as Rate
use Rattle.rules.specs.declared.BlockInfos.{BlockInfos}
use Rattle.rules.specs.Refusals.{fits_count}
use Rattle.rules.specs.Mix.{mixed_all, spread, inputs}
use Rattle.rules.specs.Block.{Call}
use Rattle.laws.proofs.Places.{FilledAll}

abbrev pub asked : Float → Float → ℕ → List Float → List Float → Call
asked t period count input output = record { time = t; period = period; count = count; input = input; output = output }

-- what an answered block is lent: at least one sample, room for all in the output, and an input of none or of all
pub record Fitting (f : BlockInfos) (input output : List Float) : Type 0 where
  pub some : 1 ≤ f.count
  pub room : f.count ≤ length output
  pub lent : fits_count input f.count ≡ true

-- the values of a walk: one for each place at A-rate, one at K-rate
abbrev pub Given : BlockInfos → List Float → Type 0
Given f vs = FilledAll f.rate f.count (length vs)

-- values where they stand at A-rate, mixed with their inputs, or with silence
unfoldable pub mixed_in : Bounds → List Float → List Float → List Float
mixed_in b input vs = mixed_all b (inputs Rate.A (length vs) input) vs

-- the samples, then what the output held behind them: `output_of`, by the block's infos
unfoldable pub written : Bounds → BlockInfos → List Float → List Float → List Float → List Float
written b f input vs output = mixed_all b (inputs f.rate f.count input) (spread f.rate f.count vs) ++ drop f.count output
