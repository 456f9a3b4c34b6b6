-- What is read of a decimal is the f64 nearest to it, ties to even (`Nearest` in `rounding_laws`): the digits and the tens as they are written. Assumes nothing.
use Rattle.std.proofs.Common.{◌≡◌, ℕ, ◌+◌, ◌*◌, ◌^◌, Bool, true, false, cond, ◌&&◌, leb, subst, arith}
use Rattle.std.specs.Prelude.{None, Some}
use lib.Ieee.{Float, binary64, round}
use Rattle.rounding_laws.specs.Nearest.{Exact, Nearest}
use Rattle.rounding_laws.proofs.Nearest.{round_nearest}
use Rattle.decimal.specs.Decimals.{scaled_by}
use Rattle.decimal.proofs.Scaling.{ten_pos}

-- ±d * 10 ^ up / 10 ^ down
abbrev pub written : Bool → ℕ → ℕ → ℕ → Exact
written minus d up down = record { sign = minus; num = d * 10 ^ up; den = 10 ^ down }

pub read_nearest : (minus : Bool) (d up down : ℕ) (x : Float) → scaled_by minus d up down ≡ Some x → Nearest binary64 (written minus d up down) x
unfolding scaled_by
read_nearest minus d up down x e = by_test (leb up (down + 22) && leb down (up + 22)) e
  where
    by_test : (b : Bool) → cond b (Some (round binary64 minus (d * 10 ^ up) (10 ^ down))) None ≡ Some x → Nearest binary64 (written minus d up down) x
    by_test true e =
        let is : round binary64 minus (d * 10 ^ up) (10 ^ down) ≡ x = cc in
        subst (Nearest binary64 (written minus d up down)) is (round_nearest binary64 minus (d * 10 ^ up) (10 ^ down) (ten_pos down))
    by_test false e = absurd (let z : ◌≡◌ {A = ℕ} 0 1 = cc in omega arith)
