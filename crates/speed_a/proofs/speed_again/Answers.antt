-- `speed_again` is safe and ends. Assumes nothing.
use mathlib.Core.Path.{refl, sym, ◌∙◌, subst}
use native.Mathlib.Omega.{arith}
use Rattle.param.specs.Param.{SoundParam}
use Rattle.speed_a.proofs.speed_again.Goals as goal
use Rattle.speed_a.proofs.speed_again.Goals.{Joined-not-again, else-not-again, then-not-again}

-- the parameter that the block left, or the one before
left : (j : Joined-not-again) → SoundParam j.if-not-again.p
left j =
    elim j.if-not-again.branch [
      | then-not-again came ↦ subst SoundParam (sym came.p-is) j.process-r.ensures.sound
      | else-not-again came ↦ subst SoundParam (sym came.p-is) j.loop.invariant.0
    ]

pub loop-init : goal.loop-init
loop-init c = (c.decode-d.ensures.sound, refl, refl)

pub process-r-requires : goal.process-r-requires
process-r-requires c = c.loop.invariant.0

pub loop-preserved : goal.loop-preserved
loop-preserved c =
    let l = c.loop in
    (left (goal.at.loop-preserved c).Joined-not-again, c.process-r.auto.output ∙ l.invariant.1, c.process-r.auto.store ∙ l.invariant.2)
