-- `kernels::log` meets its contract: the digits that are left, read from x behind those of a, give the log. Assumes nothing.
use mathlib.Core.Path.{◌≡◌, refl, sym, ap, ◌∙◌}
use Prim.Native.Nat.{ℕ, suc, ◌+◌, ◌-◌, ◌*◌, ◌/◌, ◌^◌, ◌≤◌, ◌<◌}
use native.Mathlib.Nat.{mul-le-mul, two-pow-succ, add-zero}
use native.Mathlib.Numerals.{add-one}
use native.Mathlib.Omega.{arith}
use lib.Pow.{pow_mono}
use borrow.Author.Tests.{le-leb, lt-leb}
use Rattle.rules.specs.Kernels.{log_from, log}
use Rattle.kernels.proofs.Logs.{digit_one, digit_none}
use Rattle.kernels.proofs.log.Goals as goal
use Rattle.kernels.proofs.log.Goals.{then-square-ge4294967296, else-square-ge4294967296}

square : (x : ℕ) → x < 2 ^ 32 → x * x < 2 ^ 64
square x h =
    let k : x ≤ 4294967295 = omega arith in
    omega (arith, mul-le-mul k k)

-- ---- one digit

module _ (x a found : ℕ) (p : found < 24) where
  down : suc (24 - (found + 1)) ≡ 24 - found
  down = omega arith

  one : 2 ^ 32 ≤ x * x / 2 ^ 31 → log_from (24 - found) x a ≡ log_from (24 - (found + 1)) (x * x / 2 ^ 31 / 2) (2 * a + 1)
  unfolding log_from
  one h = ap (λ (k : ℕ). log_from k x a) (sym down) ∙ rw (log_from, le-leb (2 ^ 32) (x * x / 2 ^ 31) h)

  none : x * x / 2 ^ 31 < 2 ^ 32 → log_from (24 - found) x a ≡ log_from (24 - (found + 1)) (x * x / 2 ^ 31) (2 * a)
  unfolding log_from
  none h = ap (λ (k : ℕ). log_from k x a) (sym down) ∙ rw (log_from, lt-leb (2 ^ 32) (x * x / 2 ^ 31) h, add-zero (2 * a))

twice : (n : ℕ) → 2 ^ (n + 1) ≡ 2 ^ n + 2 ^ n
twice n = rw (add-one n) (two-pow-succ n)

-- the digits found are few
few : (found : ℕ) → found < 24 → 2 ^ found ≤ 2 ^ 23
few found h = pow_mono {i = found} {j = 23} (omega arith)

pub loop-found-init : goal.loop-found-init
unfolding log
loop-found-init c = (c.requires.0, c.requires.1, omega arith, refl)

pub overflow_mul-square : goal.overflow_mul-square
overflow_mul-square c = record { fits = square c.loop-found.x c.loop-found.invariant.1 }

pub overflow_mul-a : goal.overflow_mul-a
overflow_mul-a c = omega (arith, few c.loop-found._found (omega arith))

pub overflow_add-a : goal.overflow_add-a
overflow_add-a c = omega (arith, few c.loop-found._found (omega arith))

pub overflow_mul-a-else-square-ge4294967296 : goal.overflow_mul-a-else-square-ge4294967296
overflow_mul-a-else-square-ge4294967296 c = omega (arith, few c.loop-found._found (omega arith))

pub loop-found-preserved : goal.loop-found-preserved
loop-found-preserved c =
    let l = c.loop-found in
    let n = l._found in
    let t : n < 24 = omega arith in
    let i = l.invariant in
    elim c.if-square-ge4294967296.branch [
      | then-square-ge4294967296 w ↦
          let d = digit_one l.x i.0 i.1 w.if-square-ge4294967296.true in
          rw (w.x-is, w.a-is) (d.low, d.high, omega (arith, twice n), sym (one l.x l.a n t w.if-square-ge4294967296.true) ∙ i.3)
      | else-square-ge4294967296 w ↦
          let d = digit_none l.x i.0 i.1 w.if-square-ge4294967296.false in
          rw (w.x-is, w.a-is) (d.low, d.high, omega (arith, twice n), sym (none l.x l.a n t w.if-square-ge4294967296.false) ∙ i.3)
    ]

pub returns : goal.returns
unfolding log_from
returns c = let l = c.loop-found in let e : l._found ≡ 24 = omega arith in rw e at l.invariant.3
