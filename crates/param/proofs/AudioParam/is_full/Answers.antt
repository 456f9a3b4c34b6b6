-- `is_full` meets its contract. Assumes nothing.
use mathlib.Core.Path.{sym, ap}
use Prim.Native.Nat.{ℕ}
use lib.Dec.{leb}
use Rattle.rules.specs.Numbers.{most_events}
use Rattle.param.proofs.Calls.{counted}
use Rattle.param.proofs.AudioParam.is_full.Goals as goal

pub returns : goal.returns
returns c = ap (λ (n : ℕ). leb most_events n) (sym (counted c.args.self c.requires))
