-- `phases::raised` meets its contract: 2 ^ 33 of what the pattern shows are not x's. Assumes nothing.
use mathlib.Core.Path.{◌≡◌, ◌∙◌}
use Prim.Native.Nat.{ℕ, ◌-◌, ◌*◌, ◌/◌, ◌^◌, ◌≤◌, ◌<◌}
use native.Mathlib.Omega.{arith}
use lib.Ieee.{Float}
use Rattle.std.specs.Prelude.{Option, Some, None, IfSome}
use Rattle.phases.specs.Patterns.{Lifted, Raised}
use Rattle.phases.proofs.Quick.{whole_lifted}
use Rattle.phases.proofs.raised.Goals as goal

tests : (b : ℕ) → 2115 * 2 ^ 51 ≤ b → b < 1058 * 2 ^ 52
    → (2 ^ 33 ≤ (b - 1057 * 2 ^ 52) / 2 ^ 18) × ((b - 1057 * 2 ^ 52) / 2 ^ 18 < 2 ^ 34) × ((b - 2115 * 2 ^ 51) / 2 ^ 18 ≡ (b - 1057 * 2 ^ 52) / 2 ^ 18 - 2 ^ 33)
tests b l h = (omega arith, omega arith, omega arith)

pattern : (x : Float) (o : Option ℕ) → IfSome o (λ b. (2115 * 2 ^ 51 ≤ b) × (b < 1058 * 2 ^ 52) × Lifted x ((b - 1057 * 2 ^ 52) / 2 ^ 18)) → IfSome o (Raised x)
pattern x None h = tt
pattern x (Some b) h =
    let s = tests b h.0 h.1 in
    record { lo = h.0; hi = h.1; whole = s.2 ∙ whole_lifted x ((b - 1057 * 2 ^ 52) / 2 ^ 18) h.2 s.0 s.1 }

pub returns : goal.returns
returns c = pattern c.args.x c.seen_from.result c.seen_from.ensures
