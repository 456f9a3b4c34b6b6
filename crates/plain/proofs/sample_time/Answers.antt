-- `sample_time` meets its contract: what is left to add ends at the same time. Assumes nothing.
use mathlib.Core.Path.{◌≡◌, refl, sym, ap, ◌∙◌}
use Prim.Native.Nat.{ℕ, suc, ◌+◌, ◌-◌}
use native.Mathlib.Omega.{arith}
use Rattle.rules.specs.Numbers.{time_at}
use Rattle.plain.specs.Seen.{time_after}
use Rattle.plain.proofs.sample_time.Goals as goal

pub loop-init : goal.loop-init
loop-init c = refl

pub overflow_step : goal.overflow_step
overflow_step c = omega arith

pub loop-smaller : goal.loop-smaller
loop-smaller c = omega arith

pub loop-preserved : goal.loop-preserved
unfolding time_after
loop-preserved c = let a = c.args in
    let l = c.loop in
    let z : suc (a.place - (l.counter + 1)) ≡ a.place - l.counter = omega arith in
    ap (λ (k : ℕ). time_after a.infos.dt k l.time) z ∙ l.invariant

pub returns : goal.returns
unfolding time_after time_at
returns c = let a = c.args in
    let l = c.loop in
    let z : a.place - l.counter ≡ 0 = omega arith in
    sym (ap (λ (k : ℕ). time_after a.infos.dt k l.time) z) ∙ l.invariant ∙ ap (time_after a.infos.dt (a.place - a.first)) c.fused64-time.ensures
