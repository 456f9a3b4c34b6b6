-- 02, C-16: "For every accepted block its samples, current value, carried parameter and step count equal those of the fast one", "For refused blocks it gives the
-- same number." Assumes nothing.
use mathlib.Core.Path.{◌≡◌}
use mathlib.Core.List.{List}
use lib.Ieee.{Float}
use Rattle.rules.specs.Block.{Call}
use Rattle.param.specs.declared.AudioParam.{AudioParam}
use Rattle.param.specs.declared.Processed.{Processed}
use Rattle.param.specs.Processed.{Processes}
use Rattle.param.proofs.Blocks.{processes_settled}

-- Of any block, asked of the same parameter with the same store: what `AudioParam::process` may give and what `process` of this crate may give, by their contracts,
-- are one; so are the outputs and the stores that they leave.
pub plain_is_process : {p : AudioParam} {store : List Float} {c : Call} {fast plain : Processed} {output written after left : List Float} → Processes p store c fast output after
    → Processes p store c plain written left → (plain ≡ fast) × (written ≡ output) × (left ≡ after)
plain_is_process a b = processes_settled b a
