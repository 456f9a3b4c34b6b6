-- Powers of products, and of powers. Assumes nothing.
use mathlib.Core.Path.{◌≡◌, refl}
use mathlib.Core.Bool.{Bool, true, false, ◌&&◌, false≢true}
use Prim.Native.Nat.{ℕ, zero, suc, ◌*◌, ◌^◌}
use native.Mathlib.Omega.{arith}
use native.Mathlib.Nat.{pow-suc, pow-zero, mul-suc, mul_assoc, mul_comm, mul_left_comm}
use lib.Pow.{pow-add}

pub both : (a b : Bool) → (a && b) ≡ true → (a ≡ true) × (b ≡ true)
both true true h = (refl, refl)
both true false h = absurd (false≢true h)
both false b h = absurd (false≢true h)

pub mul_pow : (a b n : ℕ) → (a * b) ^ n ≡ a ^ n * b ^ n
mul_pow a b zero = rw (pow-zero (a * b), pow-zero a, pow-zero b)
mul_pow a b (suc n) = rw (pow-suc (a * b) n, pow-suc a n, pow-suc b n, mul_pow a b n) (simp (mul_assoc, mul_comm, mul_left_comm))

pub pow_pow : (b m n : ℕ) → b ^ (m * n) ≡ (b ^ m) ^ n
pow_pow b m zero = let e : m * 0 ≡ 0 = omega arith in rw (e, pow-zero b, pow-zero (b ^ m))
pow_pow b m (suc n) = rw (mul-suc m n, pow-add b (m * n) m, pow-suc (b ^ m) n, pow_pow b m n)
