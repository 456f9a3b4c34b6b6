-- `phases::once_from` meets its contract. Assumes nothing.
use mathlib.Core.Path.{◌≡◌}
use mathlib.Core.Logic.{◌⊎◌, inl, inr}
use Prim.Native.Nat.{ℕ, ◌+◌, ◌-◌, ◌*◌, ◌^◌, ◌≤◌}
use native.Mathlib.Omega.{arith}
use lib.Ieee.{Float}
use Rattle.rounding_laws.proofs.Decode.{finite_no_nan}
use Rattle.phases.specs.Once.{unsigned, field, Grid, Once}
use Rattle.phases.proofs.once_from.Goals as goal
use Rattle.phases.proofs.once_from.Goals.{Joined-z-ne0, then-z-ne0+else-high-z, else-z-ne0}

made : (a c : Float) (high grid x : ℕ) → Grid a grid → field a + 2 ≤ high → field c + 2 ≤ high → 950 ≤ high → high ≤ 1147 → 898 ≤ x → high + 1017 ≤ grid + x
    → (unsigned c ≡ 0) ⊎ (high ≤ field c + 29) → Once a c (x * 2 ^ 52)
made a c high grid x g u uc l h v w t = record { high = high; grid = grid; few = g; over = u; over_c = uc; least = l; most = h; first = omega arith; room = omega arith; third = t }

-- what is known behind the tests
once : (c : Joined-z-ne0) (x : ℕ) → 898 ≤ x → c.higher-high.result + 1017 ≤ c.in_ok-grid.grid + x
    → Once c.args.a c.args.c (x * 2 ^ 52)
once c x k r =
    let h = c.higher-high in
    made c.args.a c.args.c h.result c.in_ok-grid.grid x c.in_ok-grid.ensures.0 h.ensures.0 h.ensures.1 h.ensures.2
    c.if-high-gt1147.false k r
    (elim c.if-z-ne0.branch [ then-z-ne0+else-high-z w ↦ inr w.if-high-z.false | else-z-ne0 w ↦ inl w.if-z-ne0.false ])

pub float_to_bits-z : goal.float_to_bits-z
float_to_bits-z c = finite_no_nan c.args.c c.requires.1

pub float_to_bits-fa : goal.float_to_bits-fa
float_to_bits-fa c = finite_no_nan c.args.a c.requires.0

pub grid_of-requires : goal.grid_of-requires
grid_of-requires c = c.requires.0

pub returns-then-high-grid-2 : goal.returns-then-high-grid-2
returns-then-high-grid-2 c = once (goal.at.returns-then-high-grid-2 c).Joined-z-ne0 898 (omega arith) (omega arith)

pub returns : goal.returns
returns c =
    let j = (goal.at.returns c).Joined-z-ne0 in
    once j (c.higher-high.result + 1017 - c.in_ok-grid.grid) (omega arith) (omega arith)
