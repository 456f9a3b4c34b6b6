-- `field::read_singles` meets its contract. The invariant of its loop: the numbers read, with those left behind them, are all. Assumes nothing.
use mathlib.Core.Path.{refl, sym, ◌∙◌}
use native.Mathlib.Nat.{add-zero, mul-zero, sub-zero}
use native.Mathlib.Omega.{arith}
use lib.ListN.{length, length-set}
use borrow.Author.Rules.{rules}
use Rattle.card_reader.proofs.Singles.{read-turn, read-over}
use Rattle.card_reader.proofs.field.read_singles.Goals as goal

pub loop-i-init : goal.loop-i-init
loop-i-init c = let a = c.args in (search rules, refl, rw (mul-zero 4, add-zero a.at, sub-zero (length a.values.now)))

pub loop-i-preserved : goal.loop-i-preserved
loop-i-preserved c =
    let a = c.args in
    let l = c.loop-i in (
      simp length-set (omega arith),
      simp length-set l.invariant.1,
      l.invariant.2 ∙ rw c.real_at.ensures (read-turn a.bytes.now a.at (length a.values.now) l.values l.i (omega arith) (omega (arith, l.invariant.1, c.loop-i-test.true))),
    )

pub returns : goal.returns
returns c =
    let a = c.args in
    let l = c.loop-i in
    sym (l.invariant.2 ∙ read-over a.bytes.now a.at (length a.values.now) l.values l.i (omega arith) (omega arith))
