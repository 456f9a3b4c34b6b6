-- `rounding::rounded` meets its contract: by the first bit that is dropped, and the rest. Assumes nothing.
use mathlib.Core.Path.{◌≡◌, sym, ap, ◌∙◌}
use Prim.Native.Nat.{ℕ, suc, ◌-◌, ◌^◌, ◌<◌}
use native.Mathlib.Nat.{div-le_self}
use native.Mathlib.Omega.{arith}
use lib.Pow.{pow_pos}
use lib.Ieee.Nearest.{closest}
use Rattle.rounding_laws.proofs.Closest.{one_shl, closest_below, closest_tie, closest_above}
use Rattle.rounding.proofs.rounded.Goals as goal

by : (d sh : ℕ) → 0 < sh → closest d (2 ^ sh) ≡ closest d (2 ^ suc (sh - 1))
by d sh h = ap (λ (x : ℕ). closest d (2 ^ x)) (back sh h)
  where
    back : (n : ℕ) → 0 < n → n ≡ suc (n - 1)
    back n h = omega arith

pub nonzero_rem-d : goal.nonzero_rem-d
nonzero_rem-d c = rw (one_shl (c.args.sh - 1) (omega arith)) (pow_pos (c.args.sh - 1))

pub overflow_add-result : goal.overflow_add-result
overflow_add-result c = omega (arith, div-le_self c.args.d (2 ^ (c.args.sh - 1)))

pub overflow_add-result-else-d-sh-eq0 : goal.overflow_add-result-else-d-sh-eq0
overflow_add-result-else-d-sh-eq0 c = omega (arith, div-le_self c.args.d (2 ^ (c.args.sh - 1)))

pub returns-then-h-eq0 : goal.returns-then-h-eq0
returns-then-h-eq0 c = sym (by c.args.d c.args.sh c.requires.0 ∙ closest_below c.args.d (c.args.sh - 1) c.if-h-eq0.true)

pub returns-then-d-sh-eq0 : goal.returns-then-d-sh-eq0
returns-then-d-sh-eq0 c = sym (by c.args.d c.args.sh c.requires.0 ∙ closest_tie c.args.d (c.args.sh - 1) c.if-h-eq0.false (rw (one_shl (c.args.sh - 1) (omega arith)) at c.if-d-sh-eq0.true))

pub returns-else-d-sh-eq0 : goal.returns-else-d-sh-eq0
returns-else-d-sh-eq0 c = sym (by c.args.d c.args.sh c.requires.0 ∙ closest_above c.args.d (c.args.sh - 1) c.if-h-eq0.false (rw (one_shl (c.args.sh - 1) (omega arith)) at c.if-d-sh-eq0.false))
