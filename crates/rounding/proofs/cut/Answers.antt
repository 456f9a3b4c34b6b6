-- `rounding::cut` meets its contract. Assumes nothing.
use mathlib.Core.Path.{refl, sym, ap}
use mathlib.Core.Bool.{not}
use Prim.Native.Nat.{ℕ, ◌%◌, ◌^◌, ◌<◌}
use native.Mathlib.Nat.{div-eq_of_lt, mod-eq_of_lt, lt_of_lt_of_le}
use lib.Dec.{eqb}
use lib.Pow.{pow_pos, pow_mono}
use Rattle.rounding_laws.proofs.Closest.{one_shl}
use Rattle.rounding.proofs.cut.Goals as goal

pub nonzero_rem-result : goal.nonzero_rem-result
nonzero_rem-result c = rw (one_shl c.args.k c.if-k-ge64.false) (pow_pos c.args.k)

pub returns-then-k-ge64 : goal.returns-then-k-ge64
returns-then-k-ge64 c =
    let l : c.args.y < 2 ^ c.args.k = lt_of_lt_of_le c.ranges.y.fits (pow_mono c.if-k-ge64.true) in
    (sym (div-eq_of_lt l), ap (λ (x : ℕ). not (eqb x 0)) (sym (mod-eq_of_lt l)))

pub returns-else-k-ge64 : goal.returns-else-k-ge64
returns-else-k-ge64 c =
    (refl, ap (λ (x : ℕ). not (eqb (c.args.y % x) 0)) (one_shl c.args.k c.if-k-ge64.false))
