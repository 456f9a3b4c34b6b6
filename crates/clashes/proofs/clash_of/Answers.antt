-- `clashes::clash_of` meets its contract: call by call. Assumes nothing.
use mathlib.Core.Path.{◌≡◌, sym, ap, ◌∙◌}
use lib.Ieee.{of_bits}
use Rattle.std.specs.Prelude.{Option, None, Some}
use Rattle.timeline.specs.Timeline.{waiting}
use Rattle.calls.specs.declared.Call.{Call}
use Rattle.clashes.specs.Clashes.{clash_of}
use Rattle.clashes.proofs.Clashing.{no_clash}
use Rattle.clashes.proofs.clash_of.Goals as goal

some_is : {o : Option Call} {a b : Call} → o ≡ Some a → a ≡ b → o ≡ Some b
some_is h e = h ∙ ap (λ (x : Call). Some x) e

pub returns-in_default : goal.returns-in_default
unfolding clash_of
returns-in_default c = sym (ap (clash_of (waiting c.args.q)) c.in_default.is)

pub returns-in-Set : goal.returns-in-Set
unfolding clash_of of_bits
returns-in-Set c = c.covered_by.ensures ∙ sym (ap (clash_of (waiting c.args.q)) (some_is c.in-Some.is c.in-Set.is))

pub returns-in-Step : goal.returns-in-Step
unfolding clash_of
returns-in-Step c = c.covered_by-in-Step.ensures ∙ sym (ap (clash_of (waiting c.args.q)) (some_is c.in-Some.is c.in-Step.is))

pub returns-in-Linear : goal.returns-in-Linear
unfolding clash_of
returns-in-Linear c = c.covered_by-in-Linear.ensures ∙ sym (ap (clash_of (waiting c.args.q)) (some_is c.in-Some.is c.in-Linear.is))

pub returns-in-Exponential : goal.returns-in-Exponential
unfolding clash_of
returns-in-Exponential c = c.covered_by-in-Exponential.ensures ∙ sym (ap (clash_of (waiting c.args.q)) (some_is c.in-Some.is c.in-Exponential.is))

pub returns-in-Target : goal.returns-in-Target
unfolding clash_of
returns-in-Target c = c.covered_by-in-Target.ensures ∙ sym (ap (clash_of (waiting c.args.q)) (some_is c.in-Some.is c.in-Target.is))

pub returns-in-Curve : goal.returns-in-Curve
unfolding clash_of
returns-in-Curve c =
    c.or.ensures ∙ rw (c.covered_by-in-Curve.ensures, c.holding.ensures) (sym (ap (clash_of (waiting c.args.q)) (some_is c.in-Some.is c.in-Curve.is)))

pub returns-in_default-call : goal.returns-in_default-call
returns-in_default-call c =
    let d = c.in_default-call in
    no_clash _ _ d.not-Set d.not-Step d.not-Linear d.not-Exponential d.not-Target d.not-Curve ∙ sym (ap (clash_of (waiting c.args.q)) c.in-Some.is)
