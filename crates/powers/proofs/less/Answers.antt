-- `powers::less` meets its contract. Assumes nothing.
use Prim.Native.Nat.{ℕ, ◌*◌, ◌/◌, ◌^◌, ◌≤◌, ◌<◌}
use native.Mathlib.Nat.{mul-le-mul, mul-le-mul_right, le_trans, le_of_lt, div-le_of_le-mul, mul_comm, le_of_eq}
use native.Mathlib.Omega.{arith}
use lib.Pow.{pow_mono}
use Rattle.powers.proofs.less.Goals as goal

fewer : (t d : ℕ) → t ≤ 2 ^ 32 → d < 2 ^ 32 → t * d < 2 ^ 64
fewer t d h k = let l : d ≤ 4294967295 = omega arith in omega (arith, mul-le-mul h l)

part : (t d sh : ℕ) → d < 2 ^ 32 → 32 ≤ sh → t * d / 2 ^ sh ≤ t
part t d sh k l = div-le_of_le-mul (2 ^ sh) (le_trans (le_of_eq (mul_comm t d)) (mul-le-mul_right t (le_trans (le_of_lt k) (pow_mono {i = 32} {j = sh} l))))

pub overflow_mul-result : goal.overflow_mul-result
overflow_mul-result c = record { fits = fewer c.args.t c.args.d c.requires.0 c.requires.1 }

pub overflow_shr-result : goal.overflow_shr-result
overflow_shr-result c = c.requires.3

pub overflow_sub-result : goal.overflow_sub-result
overflow_sub-result c = part c.args.t c.args.d c.args.sh c.requires.1 c.requires.2

pub returns : goal.returns
returns c = let p = part c.args.t c.args.d c.args.sh c.requires.1 c.requires.2 in (omega arith, omega (arith, c.requires.0))
