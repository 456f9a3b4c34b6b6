-- `phases::cut_phase` meets its contract. Assumes nothing.
use mathlib.Core.Path.{refl, sym, subst}
use Prim.Native.Nat.{ℕ, ◌*◌, ◌%◌, ◌^◌, ◌≤◌, ◌<◌}
use native.Mathlib.Omega.{arith}
use lib.Dec.{T}
use lib.Ieee.{binary64, to_bits}
use Rattle.rounding_laws.proofs.Cut.{even_law, even_nan}
use Rattle.phases.proofs.cut_phase.Goals as goal

unsigned : (b : ℕ) → 898 * 2 ^ 52 ≤ b → b < 1149 * 2 ^ 52 → (b < 2 ^ 64) × (898 * 2 ^ 52 ≤ b % 2 ^ 63) × (b % 2 ^ 63 < 1149 * 2 ^ 52)
unsigned b lo hi = (omega arith, omega arith, omega arith)

pub returns : goal.returns
returns c =
    let x = c.args.x in
    let b = to_bits binary64 x in
    let u = unsigned b c.if-b-lt4044232465378705408.false c.if-b-ge5174635971848699904.false in
    (even_law x (subst T (sym c.well_formed.0.1) tt) b refl u.0 u.1 u.2, even_nan b u.0 u.1 u.2)
