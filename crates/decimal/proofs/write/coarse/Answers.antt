-- `decimal::write::coarse` meets its contract: the whole part, and the rest in millionths. Assumes nothing.
use Rattle.std.proofs.Common.{◌≡◌, ℕ, ◌*◌, ◌%◌, ◌^◌, ◌<◌, ap, ◌∙◌, lt_of_lt_of_le, mod-lt, arith, pow_pos, pow_mono}
use lib.Pow.{shr_le}
use lib.Ieee.Nearest.{closest}
use Rattle.rounding_laws.proofs.Closest.{one_shl}
use Rattle.decimal.proofs.Showing.{coarse_shown}
use Rattle.decimal.proofs.write.coarse.Goals as goal

pub nonzero_rem-m : goal.nonzero_rem-m
nonzero_rem-m c = rw (one_shl c.args.k (omega arith)) (pow_pos c.args.k)

pub overflow_mul-m : goal.overflow_mul-m
overflow_mul-m c =
    let least : c.args.m % 2 ^ c.args.k < 2 ^ 32 = lt_of_lt_of_le (mod-lt c.args.m (pow_pos c.args.k)) (pow_mono {i = c.args.k} {j = 32} (omega arith)) in
    rw (one_shl c.args.k (omega arith)) (omega arith)

pub overflow_add-result : goal.overflow_add-result
overflow_add-result c = omega (arith, shr_le c.args.m c.args.k)

pub returns : goal.returns
returns c =
    let a = c.args in
    let e : 1 * 2 ^ a.k % 2 ^ 64 ≡ 2 ^ a.k = one_shl a.k (omega arith) in
    coarse_shown _ _ c.requires.1 a.k _ c.requires.0 c.requires.3 (c.rounded-n.ensures ∙ ap (λ (b : ℕ). closest (a.m % b * 1000000) (2 ^ a.k)) e)
