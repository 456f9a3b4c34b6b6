-- Where two cancels are not one: on a queue that 02's C-14 shuts out, and with a hold between the two. The checker plays both.
use Rattle.std.proofs.Common.{Some, None, Ok, Err}
use mathlib.Core.Path.{◌≡◌, refl, sym, ap, ◌∙◌}
use mathlib.Core.Bool.{false}
use mathlib.Core.List.{List, [], ◌∷◌, ◌++◌}
use Prim.Native.Nat.{ℕ}
use native.Mathlib.Omega.{arith}
use lib.ListN.{length, replicate}
use lib.IntN.{pos, negsuc}
use lib.Ieee.{Float, fin, nan}
use Rattle.rules.specs.declared.Event.{Event}
use Rattle.rules.specs.declared.Refusal.TheVariants as Refusal
use Rattle.rules.specs.Queue.{alone}
use Rattle.rules.specs.Block.{step, linear, target, curve, cancel, hold}
use Rattle.rules.proofs.Table.{n0, n1, n4, n5, n7, n8, n9, n10}
use Rattle.playing.specs.Play.{State, waiting, loaded, asked, scheduled, after}
use Rattle.playing.specs.Cancels.{earlier_of, burst, CancelsAreOne}
use Rattle.playing.proofs.Example.{outputs, start}

-- ---- a ramp inside a curve, the value away from the last event's: cases-02's C-17

abbrev n12 : Float
n12 = fin false 3 (pos 2)

abbrev n17 : Float
n17 = fin false 17 (pos 0)

abbrev ramp : Event
ramp = Event.Linear n9 (fin false 15 (pos 0)) None

-- a step to 1, and a target to 5 that has played up to 4 and is cancelled; then a curve from 10 to 20
abbrev before : State
before =
    scheduled
    (after (start n0 (step n1 n0 ∷ target n5 n0 n4 ∷ [])) (record { time = n0; period = n1; count = 4; input = []; output = replicate 4 nan }))
    (cancel n0 ∷ curve n10 n10 (n0 ∷ n8 ∷ []) ∷ [])

-- the ramp to 9 at 15 is refused by 11
shut_out : (asked before (linear n9 (fin false 15 (pos 0)))).verdict ≡ Err Refusal.Inside
unfolding outputs
shut_out = refl

-- as if it had been let in
abbrev around : State
around = loaded before.param (waiting before ++ (alone ramp ∷ []))

-- Cancels at 17 and 12: the first takes the curve alone, the second the ramp, now the head, and the value returns to 1. One at 12 takes both; the head is a curve that
-- has not started, and the value stays at 3.528.., where the target brought it.
parted : ((scheduled around (burst (n17 ∷ n12 ∷ []))).param.intrinsic ≡ n1)
    × ((scheduled around (burst (n12 ∷ []))).param.intrinsic ≡ fin false 14799527 (negsuc 21))
unfolding outputs
parted = (refl, refl)

both_accepted : ((asked around (cancel n17)).verdict ≡ Ok tt) × ((asked around (cancel n12)).verdict ≡ Ok tt)
unfolding outputs
both_accepted = (refl, refl)

earlier_is : earlier_of n17 n12 ≡ n12
unfolding outputs earlier_of
earlier_is = refl

-- so the invariant is needed
pub not_of_every_queue : ((s : State) → CancelsAreOne s) → ⊥
not_of_every_queue claim =
    let same : scheduled around (burst (n17 ∷ n12 ∷ [])) ≡ scheduled around (burst (n12 ∷ [])) =
    rw earlier_is at ((claim around).two n17 n12 both_accepted.0 both_accepted.1).forth in
    let z : ◌≡◌ {A = ℕ} 1 14799527 = cc (ap (λ (s : State). s.param.intrinsic) same, parted.0, parted.1) in
    omega arith

-- ---- a hold between the two: a ramp to 8 at 10 waits

abbrev waits : State
waits = start n0 (linear n8 n10 ∷ [])

abbrev n20 : Float
n20 = fin false 5 (pos 2)

-- cancels at 7 and 20 with a hold at 5 between them leave nothing, as one at 7 does; at 20 and 7 they leave the ramp, held at 5
turned_about : ((scheduled waits (cancel n7 ∷ hold n5 ∷ cancel n20 ∷ [])).param.queue ≡ [])
    × ((scheduled waits (burst (n7 ∷ []))).param.queue ≡ [])
    × ((scheduled waits (cancel n20 ∷ hold n5 ∷ cancel n7 ∷ [])).param.queue ≡ Event.Linear n8 n10 (Some n5) ∷ [])
unfolding outputs
turned_about = (refl, refl, refl)

-- so no one call is both
pub not_with_a_hold_between : ((a b c : Float) → scheduled waits (cancel a ∷ hold c ∷ cancel b ∷ []) ≡ scheduled waits (cancel b ∷ hold c ∷ cancel a ∷ [])) → ⊥
not_with_a_hold_between claim =
    let z : ◌≡◌ {A = ℕ} 0 1 = ap (λ (q : List Event). length q) (sym turned_about.0 ∙ ap (λ (s : State). s.param.queue) (claim n7 n20 n5) ∙ turned_about.2) in
    omega arith
