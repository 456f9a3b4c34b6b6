-- `take_head` meets its contract, event by event. Assumes nothing.
use mathlib.Core.Path.{◌≡◌, ap, ◌∙◌}
use Prim.Native.Nat.{◌-◌}
use native.Mathlib.Omega.{arith}
use lib.ListN.{length, get_or}
use lib.Ieee.{nan}
use Rattle.rules.specs.Queue.{filed_under}
use Rattle.rules.specs.Samples.{is_ratio, ratio_of, last_number}
use Rattle.rules.specs.Walk.{counted, with_last, with_turned, start_of, last_or, turn_of}
use Rattle.timeline.proofs.Heads.{curve_enough, curve_few}
use Rattle.mix.proofs.Writes.{any_default}
use Rattle.plain.specs.Seen.{seen, seen_turn}
use Rattle.plain.proofs.Sees.{infos_is, starts, counted_is, started_is, linear_is, exponential_is, exponential_turns, target_is, curve_waits, curve_is}
use Rattle.plain.proofs.take_head.Goals as goal

pub span-requires : goal.span-requires
span-requires c = (rw c.started.ensures c.requires.0, tt)

pub span-requires-then-is_finite-is_positive : goal.span-requires-then-is_finite-is_positive
span-requires-then-is_finite-is_positive c = (rw c.started-then-is_finite-is_positive.ensures c.requires.0, tt)

pub returns-then-is_finite-is_positive : goal.returns-then-is_finite-is_positive
unfolding turn_of is_ratio ratio_of
returns-then-is_finite-is_positive c = λ f n w e.
    let a = c.args in
    let from = c.start_of-from.ensures ∙ starts f n w e in
    let some = rw (c.is_finite.ensures, c.is_positive.ensures, from) at c.if-is_finite-is_positive.true in
    rw c.in-Exponential.is (c.span-then-is_finite-is_positive.ensures f n _ (c.started-then-is_finite-is_positive.ensures ∙ started_is f n w e) ∙ ap (seen_turn f n) (exponential_is f n w a.numbers.now _ _ _ some))

pub step-requires-in-Exponential : goal.step-requires-in-Exponential
step-requires-in-Exponential c = rw (c.started-in-Exponential.ensures, c.counted.ensures) c.requires.0

pub target-requires : goal.target-requires
target-requires c = (rw c.started-in-Target.ensures c.requires.0, tt)

pub returns-then-start-look : goal.returns-then-start-look
unfolding turn_of filed_under
returns-then-start-look c = λ f n w e.
    let a = c.args in
    let is = c.in-Curve.is in
    rw is (curve_waits f n w a.numbers.now _ _ _ _ (rw (infos_is f n w e, c.filed_under-start.ensures, is) at c.if-start-look.true) e)

pub overflow_sub-last : goal.overflow_sub-last
overflow_sub-last c = omega (arith, curve_enough c.requires.2 c.in-Curve.is)

pub bounds-numbers-numbers : goal.bounds-numbers-numbers
bounds-numbers-numbers c = omega (arith, curve_enough c.requires.2 c.in-Curve.is)

pub span-requires-in-Curve : goal.span-requires-in-Curve
span-requires-in-Curve c = let is = c.in-Curve.is in
    (c.requires.0, (curve_enough c.requires.2 is, curve_few c.requires.2 is))

pub returns-in-Step : goal.returns-in-Step
unfolding turn_of
returns-in-Step c = λ f n w e. rw c.in-Step.is (c.step.ensures f n w e)

pub returns-in-Linear : goal.returns-in-Linear
unfolding turn_of
returns-in-Linear c = λ f n w e.
    let a = c.args in
    rw c.in-Linear.is (c.span.ensures f n _ (c.started.ensures ∙ started_is f n w e) ∙ ap (seen_turn f n) (linear_is f n w a.numbers.now _ _ _))

pub returns-else-is_finite-is_positive : goal.returns-else-is_finite-is_positive
unfolding turn_of is_ratio ratio_of seen counted with_last with_turned start_of last_or
returns-else-is_finite-is_positive c = λ f n w e.
    let a = c.args in
    let from = c.start_of-from.ensures ∙ starts f n w e in
    let none = rw (c.is_finite.ensures, c.is_positive.ensures, from) at c.if-is_finite-is_positive.false in
    let begun = rw c.counted.ensures at c.started-in-Exponential.ensures ∙ started_is f n (counted w) (counted_is f n w e) in
    rw c.in-Exponential.is
    (rw c.hold_or.ensures at (c.step-in-Exponential.ensures f n (counted (with_turned (with_last (start_of f w) w))) begun) ∙ ap (seen_turn f n) (exponential_turns f n w a.numbers.now _ _ _ none))

pub returns-in-Target : goal.returns-in-Target
unfolding turn_of filed_under
returns-in-Target c = λ f n w e.
    let a = c.args in
    let is = c.in-Target.is in
    rw is
    (rw (c.target_end-end.ensures, infos_is f n w e, c.filed_under-start.ensures, is) at (c.target.ensures f n _ (c.started-in-Target.ensures ∙ started_is f n w e))
    ∙ ap (seen_turn f n) (target_is f n w a.numbers.now _ _ _ _ a.next))

pub returns-else-start-look : goal.returns-else-start-look
unfolding turn_of filed_under last_number
returns-else-start-look c = λ f n w e.
    let a = c.args in
    let xs = a.numbers.now in
    let is = c.in-Curve.is in
    let last : get_or xs (length xs - 1) nan ≡ last_number xs = any_default xs (length xs - 1) (omega (arith, curve_enough c.requires.2 is)) in
    rw is
    (rw (last, c.filed_under-start.ensures, is) at (c.span-in-Curve.ensures f n w e)
    ∙ ap (seen_turn f n) (curve_is f n w xs _ _ _ _ (rw (infos_is f n w e, c.filed_under-start.ensures, is) at c.if-start-look.false)))
