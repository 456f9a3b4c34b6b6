-- `field::worst_of` meets its contract: with i numbers passed, the others decide. Assumes nothing.
use mathlib.Core.Path.{sym, ◌∙◌}
use native.Mathlib.Nat.{add-zero, mul-zero, sub-zero}
use native.Mathlib.Omega.{arith}
use lib.Ieee.{of_bits, of_fields, odd}
use Rattle.rules.specs.Numbers.{is_finite}
use Rattle.refusals.proofs.Rows.{found}
use Rattle.card_reader.proofs.Singles.{finite_turn, finite_not, finite_over}
use Rattle.card_reader.proofs.field.worst_of.Goals as goal

pub loop-i-init : goal.loop-i-init
loop-i-init c = let a = c.args in (omega arith, rw (mul-zero 4, add-zero a.at, sub-zero a.n))

pub returns-then-not-is_finite : goal.returns-then-not-is_finite
returns-then-not-is_finite c =
    let a = c.args in
    let odd = found c.is_finite.ensures c.if-not-is_finite.true in
    odd ∙ sym (c.loop-i.invariant.1 ∙ finite_not a.bytes.now a.at a.n c.loop-i.i (omega arith) (rw c.real_at-x.ensures at odd))

pub loop-i-preserved : goal.loop-i-preserved
loop-i-preserved c =
    let a = c.args in
    let fine = found c.is_finite.ensures c.if-not-is_finite.false in
    (omega arith, c.loop-i.invariant.1 ∙ finite_turn a.bytes.now a.at a.n c.loop-i.i (omega arith) (rw c.real_at-x.ensures at fine))

pub returns : goal.returns
unfolding is_finite of_bits of_fields odd
returns c = let a = c.args in sym (c.loop-i.invariant.1 ∙ finite_over a.bytes.now a.at a.n c.loop-i.i (omega arith))
