-- `decays::decay_by` meets its contract. Assumes nothing.
use mathlib.Core.Path.{ap, ◌∙◌}
use mathlib.Core.Bool.{false}
use Prim.Native.Nat.{ℕ, ◌-◌, ◌*◌, ◌/◌, ◌^◌, ◌<◌}
use native.Mathlib.Omega.{arith}
use lib.Ieee.{binary32, of_bits, round}
use Rattle.rules.specs.Kernels.{parts}
use Rattle.samples.proofs.Fading.{decay_gone, steps_few, decay-left, steps_norm}
use Rattle.decays.proofs.decay_by.Goals as goal
use Rattle.decays.proofs.decay_by.Goals.{After-whole-p}

few : (c : After-whole-p) → c.whole-p.result < 161 * parts
unfolding of_bits
few c = rw c.whole-p.ensures (steps_few c.args.y c.if-y.false)

pub returns-then-y : goal.returns-then-y
unfolding of_bits
returns-then-y c = decay_gone c.args.y c.if-y.true

pub overflow_sub-p : goal.overflow_sub-p
overflow_sub-p c = omega (arith, few (goal.at.overflow_sub-p c).After-whole-p)

pub returns : goal.returns
unfolding of_bits
returns c =
    let w = (goal.at.returns c).After-whole-p in
    let p = c.whole-p.result in
    c.norm.ensures ∙ ap (λ (d : ℕ). round binary32 false (d * 2 ^ (331 - p / parts)) (2 ^ 363)) c.falling_by-d.ensures
    ∙ steps_norm p (few w) ∙ rw c.whole-p.ensures (decay-left c.args.y c.if-y.false)
