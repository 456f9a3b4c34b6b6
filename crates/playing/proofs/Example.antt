-- Demand 3 on two schedules that the checker plays: it speaks of blocks that are played, and with one shared event in place of two it would not hold.
use mathlib.Core.Path.{◌≡◌, refl, ap}
use mathlib.Core.Bool.{false}
use mathlib.Core.List.{List, [], ◌∷◌}
use Prim.Native.Nat.{ℕ, ◌+◌, ◌≤◌}
use native.Mathlib.Omega.{arith}
use lib.ListN.{length, take, drop, replicate, length-replicate}
use lib.IntN.{negsuc}
use lib.Ieee.{Float, fin, nan}
use Rattle.rules.specs.declared.AutomationRate.TheVariants as Rate
use Rattle.rules.specs.Numbers.{store_length}
use Rattle.rules.specs.Block.{Command, step, linear, target, curve, cancel, Call, Answer}
use Rattle.rules.proofs.Table.{results, bounds, n0, n1, n2, n3, n4, n5, n7, n9, n10, half, minus10}
use Rattle.playing.specs.Play as Play
use Rattle.playing.specs.Play.{State, begun, scheduled, waiting, after, answer_to, after_all, played, apart}
use Rattle.playing.specs.Demand as Demand
use Rattle.playing.specs.Demand.{while_two_wait, behind, resumed, PlayedTheSame}
use Rattle.playing.proofs.Demand.{demand_3}

-- a parameter just made with a store that holds x everywhere, then these calls
abbrev pub start : Float → List Command → State
start x cs = scheduled (begun (bounds minus10 n0 n10) Rate.A 1 (replicate store_length x)) cs

-- two places from t on, with silence
abbrev block : Float → Call
block t = record { time = t; period = n1; count = 2; input = []; output = replicate 2 nan }

abbrev blocks : List Call
blocks = block n0 ∷ block n2 ∷ block n4 ∷ []

-- its line names all that is computed here; `results` stands for the rules
unfoldable pub outputs : List Answer → List (List Float)
unfolding results Play.waiting Play.loaded Play.begun Play.asked Play.after_call Play.scheduled Play.answer_to Play.after Play.after_all Play.played
    Demand.while_two_wait Demand.still_shared Demand.resumed_with
outputs [] = []
outputs (a ∷ more) = a.output ∷ outputs more

-- ---- three shared events, in the second as they are left by a cancel; behind them a step, or a curve. The first's curve at the ramp's time 4 and its step inside the
-- curve from 4.5 to 5 are refused by 11, and so are no part of its schedule.

abbrev halfway : Command
halfway = curve (fin false 9 (negsuc 0)) half (n3 ∷ n5 ∷ [])

abbrev first : State
first = start n9 (linear n3 n4 ∷ step n1 n0 ∷ curve n4 n1 (n3 ∷ n5 ∷ []) ∷ halfway ∷ step n9 (fin false 19 (negsuc 1)) ∷ step n7 n5 ∷ [])

abbrev second : State
second = start nan (step n1 n0 ∷ linear n3 n4 ∷ step n2 n5 ∷ cancel n5 ∷ curve n5 n2 (n1 ∷ n2 ∷ []) ∷ halfway ∷ [])

four_wait : length first.param.queue ≡ 4
unfolding outputs
four_wait = refl

-- they agree in three events, curve included; after the first two of the blocks two of these wait, and after the third none
agree : take 3 (waiting first) ≡ take 3 (waiting second)
unfolding outputs
agree = refl

two_blocks : while_two_wait (behind 3 first) first blocks ≡ take 2 blocks
unfolding outputs
two_blocks = refl

-- the third block is where they part; the first, resumed before it as the second, plays what the second plays
heard : (outputs (played first blocks) ≡ (n1 ∷ fin false 3 (negsuc 0) ∷ []) ∷ (n2 ∷ fin false 5 (negsuc 0) ∷ []) ∷ (n3 ∷ n7 ∷ []) ∷ [])
    × (outputs (played second blocks) ≡ (n1 ∷ fin false 3 (negsuc 0) ∷ []) ∷ (n2 ∷ fin false 5 (negsuc 0) ∷ []) ∷ (n3 ∷ n1 ∷ []) ∷ [])
    × (outputs (played (resumed 3 first second (take 2 blocks)) (drop 2 blocks)) ≡ (n3 ∷ n1 ∷ []) ∷ [])
unfolding outputs
heard = (refl, refl, refl)

example : PlayedTheSame 3 first second blocks (take 2 blocks)
example =
    rw
    two_blocks
    at (demand_3 (bounds minus10 n0 n10) Rate.A 1 _ _ (length-replicate store_length n9) (length-replicate store_length nan) _ _ 3 agree blocks)

-- ---- with one it fails: a target looks at the event behind it

abbrev third : List Command
third = target n1 n0 n1 ∷ step n5 n9 ∷ []

abbrev fourth : List Command
fourth = target n1 n0 n1 ∷ linear n3 n9 ∷ []

one_waits : (take 1 (waiting (start n0 third)) ≡ take 1 (waiting (start n0 fourth)))
    × (behind 1 (start n0 third) + 1 ≡ length (after (start n0 third) (block n0)).param.queue)
unfolding outputs
one_waits = (refl, refl)

-- 0 and 0.632.., or 0 and 0.333..
parted : ((answer_to (start n0 third) (block n0)).output ≡ n0 ∷ fin false 10605223 (negsuc 23) ∷ [])
    × ((answer_to (start n0 fourth) (block n0)).output ≡ n0 ∷ fin false 11184811 (negsuc 24) ∷ [])
unfolding outputs
parted = (refl, refl)

pub one_fails : ((xs ys : List Command) (m : ℕ) (c : Call) → take m (waiting (start n0 xs)) ≡ take m (waiting (start n0 ys))
    → behind m (start n0 xs) + 1 ≤ length (after (start n0 xs) c).param.queue → apart (answer_to (start n0 xs) c) ≡ apart (answer_to (start n0 ys) c)) → ⊥
one_fails claim =
    let said = claim third fourth 1 (block n0) one_waits.0 (omega (arith, one_waits.1)) in
    let same : (answer_to (start n0 third) (block n0)).output ≡ (answer_to (start n0 fourth) (block n0)).output = unfold apart in ap (λ (a : Answer). a.output) said in
    let z : ◌≡◌ {A = ℕ} 10605223 11184811 = cc (same, parted.0, parted.1) in
    omega arith
