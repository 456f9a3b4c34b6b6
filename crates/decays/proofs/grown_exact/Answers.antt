-- `decays::grown_exact` meets its contract. Assumes nothing.
use mathlib.Core.Path.{sym, ap, ◌∙◌, subst}
use Prim.Native.Nat.{ℕ, ◌^◌, ◌≤◌}
use native.Mathlib.Nat.{le_trans}
use native.Mathlib.Omega.{arith}
use lib.Dec.{lit≤}
use Rattle.rules.specs.Numbers.{narrowed}
use Rattle.decays.proofs.Range.{falling_low, falling_high}
use Rattle.decays.proofs.Shown.{missing, factor_low, factor_high, shown_itself}
use Rattle.decays.proofs.grown_exact.Goals as goal
use Rattle.decays.proofs.grown_exact.Goals.{After-falling_by-d}

-- the falling power that the code has
small : (c : After-falling_by-d) → c.falling_by-d.result ≤ 2 ^ 32
small c =
    let s = c.before in
    subst (λ (d : ℕ). d ≤ 2 ^ 32) (sym c.falling_by-d.ensures) (falling_high (missing s.args.b s.requires.0 s.requires.1))

low : (c : After-falling_by-d) → 2 ^ 31 ≤ c.falling_by-d.result
low c =
    let s = c.before in
    subst (λ (d : ℕ). 2 ^ 31 ≤ d) (sym c.falling_by-d.ensures) (le_trans (lit≤ tt) (falling_low (missing s.args.b s.requires.0 s.requires.1)))

pub overflow_mul-n-2 : goal.overflow_mul-n-2
overflow_mul-n-2 c = record { fits = let m = small c in omega arith }

pub overflow_add-n : goal.overflow_add-n
overflow_add-n c =
    record { fits = let m = factor_high c.args.b c.requires.0 c.requires.1 c.falling_by-d.result (small c) in omega arith }

pub narrowed_of-requires : goal.narrowed_of-requires
narrowed_of-requires c =
    (c.requires.2, factor_low c.args.b c.requires.0 c.requires.1 c.falling_by-d.result (low c), factor_high c.args.b c.requires.0 c.requires.1 c.falling_by-d.result (small c))

pub returns : goal.returns
returns c n x t =
    c.narrowed_of.ensures ∙ ap narrowed (shown_itself c.args.b c.requires.0 c.requires.1 n x c.args.from c.falling_by-d.result t c.requires.2.fine c.falling_by-d.ensures)
