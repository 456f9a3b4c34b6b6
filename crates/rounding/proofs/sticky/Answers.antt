-- `rounding::sticky` meets its contract. Assumes nothing.
use mathlib.Core.Path.{sym, ap}
use mathlib.Core.Bool.{Bool, cond}
use Prim.Native.Nat.{◌+◌, ◌*◌, ◌/◌}
use Rattle.rounding.proofs.sticky.Goals as goal

pub returns-then-rest : goal.returns-then-rest
returns-then-rest c = let d = c.args.d in sym (ap (λ (x : Bool). cond x (d / 2 * 2 + 1) d) c.if-rest.true)
