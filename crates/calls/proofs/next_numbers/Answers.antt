-- `calls::next_numbers` meets its contract. The invariant of its loop: the numbers read so far, before those that are left, are the numbers.
-- Assumes nothing.
use mathlib.Core.Path.{sym, ap, ◌∙◌}
use native.Mathlib.Omega.{arith}
use Rattle.calls.specs.Language.{numbers_at}
use Rattle.calls.proofs.Numbers.{at_first, next_is, next_not, at_last}
use Rattle.calls.proofs.next_numbers.Goals as goal

pub loop-i-init : goal.loop-i-init
loop-i-init c = at_first c.args.numbers.now _ _

pub returns-in_err-value : goal.returns-in_err-value
returns-in_err-value c =
    let l = c.loop-i in
    ap (numbers_at _ _) c.from_residual.ensures ∙ sym (l.invariant ∙ next_not _ _ _ _ c.loop-i-test.true c.in_err-value.ensures)

pub loop-i-preserved : goal.loop-i-preserved
loop-i-preserved c =
    let l = c.loop-i in
    l.invariant ∙ next_is _ _ _ _ c.loop-i-test.true (omega (arith, c.requires, l.auto.numbers, c.loop-i-test.true)) c.in_ok-value.ensures

pub returns : goal.returns
returns c = sym (c.loop-i.invariant ∙ at_last _ _ _ _ c.loop-i.auto.i-end c.loop-i-test.false)
