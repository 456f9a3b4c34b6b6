-- `text::read::number_in` meets its contract. The invariant of its loop: the word's number is what the characters left make of the value so far.
-- Assumes nothing.
use mathlib.Core.Path.{◌≡◌, sym, ap, ◌∙◌}
use mathlib.Core.List.{[]}
use Prim.Native.Nat.{ℕ, ◌+◌, ◌*◌, ◌^◌, ◌≤◌, ◌<◌}
use native.Mathlib.Nat.{le_trans, le-add_right}
use native.Mathlib.Omega.{arith}
use lib.ListN.{length, drop, drop_of_length-le}
use borrow.Author.Tests.{eqb-true, eqb-false}
use Rattle.text.specs.Digits.{number_from}
use Rattle.text.proofs.Reading.{at_least_one, no_character, all_read, too_large, turn, stop}
use Rattle.text.proofs.read.number_in.Goals as goal

pub returns-then-is_empty : goal.returns-then-is_empty
returns-then-is_empty c = sym (no_character _ _ (eqb-true _ _ (sym c.if-is_empty.ensures)))

pub loop-c-init : goal.loop-c-init
loop-c-init c = let some-char : 0 < length c.args.word.now = omega (arith, eqb-false _ _ (sym c.if-is_empty.ensures)) in (omega arith, at_least_one _ _ some-char)

pub returns-then-base-d : goal.returns-then-base-d
returns-then-base-d c = sym (c.loop-c.invariant.1 ∙ stop _ _ _ _ _ c.loop-c-test.true c.digit-d.ensures c.if-base-d.true)

pub returns-in_err-checked_mul : goal.returns-in_err-checked_mul
returns-in_err-checked_mul c =
    let l = c.loop-c in
    let large : 2 ^ 64 ≤ l.value * c.args.base = omega (arith, c.in_err-checked_mul.ensures) in
    c.from_residual.ensures ∙ sym (l.invariant.1 ∙ turn _ _ _ _ _ c.loop-c-test.true c.digit-d.ensures c.if-base-d.false ∙ too_large _ _ _ (omega arith) (le_trans large (le-add_right _ _)))

pub returns-in_err-value : goal.returns-in_err-value
returns-in_err-value c =
    let l = c.loop-c in
    let large : 2 ^ 64 ≤ l.value * c.args.base + c.digit-d.result = omega (arith, c.in_ok-checked_mul.ensures.1, c.in_err-value.ensures) in
    c.from_residual-in_err-value.ensures ∙ sym (l.invariant.1 ∙ turn _ _ _ _ _ c.loop-c-test.true c.digit-d.ensures c.if-base-d.false ∙ too_large _ _ _ (omega arith) large)

pub loop-c-preserved : goal.loop-c-preserved
loop-c-preserved c =
    let l = c.loop-c in
    let is : l.value * c.args.base + c.digit-d.result ≡ c.in_ok-value.value = omega (arith, c.in_ok-checked_mul.ensures.1, c.in_ok-value.ensures.1) in
    (omega (arith, c.in_ok-value.ensures), l.invariant.1 ∙ turn _ _ _ _ _ c.loop-c-test.true c.digit-d.ensures c.if-base-d.false ∙ ap (λ (v : ℕ). number_from c.args.base v (drop (l.c-index + 1) c.args.word.now)) is)

pub returns : goal.returns
returns c =
    let w = c.args.word.now in
    let e : drop c.loop-c.c-index w ≡ [] = drop_of_length-le w c.loop-c-test.false in
    sym (c.loop-c.invariant.1 ∙ ap (number_from _ _) e ∙ all_read _ _ c.loop-c.invariant.0)
