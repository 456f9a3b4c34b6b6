-- `phases::seen_from` meets its contract. Assumes nothing.
use mathlib.Core.Path.{◌≡◌}
use Prim.Native.Nat.{ℕ, ◌-◌, ◌*◌, ◌%◌, ◌^◌, ◌≤◌, ◌<◌}
use native.Mathlib.Omega.{arith}
use lib.Ieee.{of_bits}
use Rattle.phases.proofs.Quick.{bits, lifts}
use Rattle.phases.proofs.Seen.{no_nan}
use Rattle.phases.proofs.seen_from.Goals as goal

-- what the tests say of the pattern
tests : (b : ℕ) → 1057 * 2 ^ 52 ≤ b → (b % 2 ^ 18 ≡ 0 → ⊥) → (1057 * 2 ^ 52 < b) × ((b - 1057 * 2 ^ 52) % 2 ^ 18 ≡ 0 → ⊥)
tests b l n = (omega arith, (λ z. n (omega arith)))

pub returns-then-b-ne0 : goal.returns-then-b-ne0
unfolding of_bits
returns-then-b-ne0 c =
    let x = c.args.x in
    let h = c.if-b-lt4764808405757984768.true in
    let s = tests (bits x) (omega (arith, c.if-b-least.true, c.requires)) c.if-b-ne0.true in
    (c.if-b-least.true, h, lifts x (record { some = no_nan _ c.is_nan.ensures.value c.if-is_nan.false; lo = s.0; hi = h; apart = s.1 }))
