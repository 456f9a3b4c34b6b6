-- `decays::exact_of` meets its contract. Assumes nothing.
use mathlib.Core.Path.{ap, ◌∙◌}
use Prim.Native.Nat.{◌/◌, ◌%◌, ◌^◌, ◌≤◌}
use native.Mathlib.Nat.{le_trans, le_of_eq}
use native.Mathlib.Omega.{arith}
use Rattle.rules.specs.Kernels.{falling}
use Rattle.decays.proofs.Range.{falling_high}
use Rattle.decays.proofs.Window.{last_steps, shows_even}
use Rattle.decays.proofs.exact_of.Goals as goal
use Rattle.decays.proofs.exact_of.Goals.{After-falling_by-d}

most : (c : After-falling_by-d) → c.falling_by-d.result ≤ 2 ^ 32
most c = le_trans (le_of_eq c.falling_by-d.ensures) (falling_high (c.args.b / 2 ^ 18 % 2 ^ 24))

pub overflow_add-result : goal.overflow_add-result
overflow_add-result c = record { fits = omega (arith, most c) }

pub overflow_add-result-2 : goal.overflow_add-result-2
overflow_add-result-2 c = record { fits = omega (arith, most c) }

pub returns : goal.returns
returns c =
    let b = c.args.b in
    let s = c.requires in
    shows_even b s c.falling_by-d.result (c.falling_by-d.ensures ∙ ap falling (last_steps b s))
