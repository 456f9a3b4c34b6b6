-- `decimal::read::scaled_by` meets its contract: one operation on two numbers that are exact. Assumes nothing.
use Rattle.std.proofs.Common.{Some, sym, ap, ◌∙◌}
use lib.Ieee.{Float, binary64, mul, div}
use Rattle.decimal.proofs.Scaling.{too_high, too_low, raised, lowered}
use Rattle.decimal.proofs.read.scaled_by.Goals as goal

pub returns-then-up-down-gt22 : goal.returns-then-up-down-gt22
returns-then-up-down-gt22 c = sym (too_high _ _ _ _ c.if-up-down-gt22.true)

pub returns-then-down-up : goal.returns-then-down-up
returns-then-down-up c =
    ap (λ (t : Float). Some (mul binary64 c.signed.result t)) c.ten_to.ensures
    ∙ sym (raised _ _ _ _ _ c.signed.ensures c.if-down-up.true c.if-up-down-gt22.false)

pub returns-then-down-up-gt22 : goal.returns-then-down-up-gt22
returns-then-down-up-gt22 c = sym (too_low _ _ _ _ c.if-down-up-gt22.true)

pub returns : goal.returns
returns c =
    ap (λ (t : Float). Some (div binary64 c.signed-2.result t)) c.ten_to-2.ensures
    ∙ sym (lowered _ _ _ _ _ c.signed-2.ensures c.if-down-up.false c.if-down-up-gt22.false)
