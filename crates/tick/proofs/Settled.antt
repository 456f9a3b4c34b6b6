-- What the contract of `tick` settles: two results that it allows for the same input are the same, and they are those of `process`. Assumes nothing.
use mathlib.Core.Path.{◌≡◌, ap}
use mathlib.Core.List.{List}
use lib.Ieee.{Float}
use Rattle.rules.specs.Block.{Call}
use Rattle.param.specs.declared.AudioParam.{AudioParam}
use Rattle.param.specs.declared.Processed.{Processed}
use Rattle.param.specs.Processed.{Processes}
use Rattle.param.proofs.Blocks.{processes_settled}
use Rattle.tick.specs.declared.Ticked.{Ticked}
use Rattle.tick.specs.Ticked.{with_param, without_param}

module _ {p q : AudioParam} {store after left output written : List Float} {c : Call} {r : Ticked} (a : Processes p store c (with_param r q) output after) where
  -- a tick says and leaves what `process` gives back
  pub ticks_as_process : {s : Processed} → Processes p store c s written left → (r ≡ without_param s) × (q ≡ s.param) × (output ≡ written) × (after ≡ left)
  ticks_as_process b =
      let same = processes_settled a b in
      (ap without_param same.0, ap (λ (x : Processed). x.param) same.0, same.1, same.2)

  -- what it says, the parameter where it lies, output and store
  pub ticks_settled : {s : Ticked} {z : AudioParam} → Processes p store c (with_param s z) written left → (r ≡ s) × (q ≡ z) × (output ≡ written) × (after ≡ left)
  ticks_settled b = ticks_as_process b
