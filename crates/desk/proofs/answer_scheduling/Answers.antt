-- `desk::answer_scheduling` meets its contract: what each call ensures. Assumes nothing.
use mathlib.Core.Path.{◌≡◌, sym}
use Prim.Native.Nat.{ℕ}
use native.Mathlib.Nat.{le_trans}
use native.Mathlib.Omega.{arith}
use lib.Seq.{length-take-le}
use Rattle.desk.specs.Desk.{InRange, answer_of}
use Rattle.desk.proofs.Turns.{by_call, ranged, is_scheduling-theirs}
use Rattle.desk.proofs.answer_scheduling.Goals as goal

pub slice_bounds-curve-end : goal.slice_bounds-curve-end
unfolding InRange
slice_bounds-curve-end c =
    let h = ranged c.in-Curve.is c.requires.1 in
    sym (length-take-le c.in-Curve.len c.args.numbers.now (le_trans h c.requires.3))

pub returns-in-Set : goal.returns-in-Set
unfolding answer_of
returns-in-Set c =
    let a = c.args in
    λ file. by_call a.numbers.now file c.in-Set.is (c.set.ensures a.store.now)

pub returns-in-Step : goal.returns-in-Step
unfolding answer_of
returns-in-Step c =
    let a = c.args in
    λ file. by_call a.numbers.now file c.in-Step.is (c.step.ensures a.store.now)

pub returns-in-Linear : goal.returns-in-Linear
unfolding answer_of
returns-in-Linear c =
    let a = c.args in
    λ file. by_call a.numbers.now file c.in-Linear.is (c.linear.ensures a.store.now)

pub returns-in-Exponential : goal.returns-in-Exponential
unfolding answer_of
returns-in-Exponential c =
    let a = c.args in
    λ file. by_call a.numbers.now file c.in-Exponential.is (c.exponential.ensures a.store.now)

pub returns-in-Target : goal.returns-in-Target
unfolding answer_of
returns-in-Target c =
    let a = c.args in
    λ file. by_call a.numbers.now file c.in-Target.is (c.target.ensures a.store.now)

pub returns-in-Curve : goal.returns-in-Curve
unfolding answer_of
returns-in-Curve c = λ file. by_call c.args.numbers.now file c.in-Curve.is c.curve.ensures

pub returns-in-Cancel : goal.returns-in-Cancel
unfolding answer_of
returns-in-Cancel c = λ file. by_call c.args.numbers.now file c.in-Cancel.is c.cancel.ensures

pub returns-in-Hold : goal.returns-in-Hold
unfolding answer_of
returns-in-Hold c = λ file. by_call c.args.numbers.now file c.in-Hold.is c.hold.ensures

pub returns-in_default : goal.returns-in_default
returns-in_default c =
    let e = is_scheduling-theirs c.args.call c.in_default.not-Set c.in_default.not-Step c.in_default.not-Linear c.in_default.not-Exponential c.in_default.not-Target c.in_default.not-Curve c.in_default.not-Cancel c.in_default.not-Hold in
    let z : ◌≡◌ {A = ℕ} 0 1 = cc in
    absurd (omega arith)
