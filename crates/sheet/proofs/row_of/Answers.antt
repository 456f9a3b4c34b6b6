-- `sheet::row_of` meets its contract. Assumes nothing.
use mathlib.Core.Path.{refl, ◌∙◌}
use native.Mathlib.Omega.{arith}
use borrow.Author.Tests.{ne_eqb}
use Rattle.sheet.specs.Rows.{row_of}
use Rattle.sheet.proofs.row_of.Goals as goal

pub returns-in-2 : goal.returns-in-2
unfolding row_of
returns-in-2 c = c.b2.ensures ∙ rw c.in-2.is refl

pub returns-in-3 : goal.returns-in-3
unfolding row_of
returns-in-3 c = c.b3.ensures ∙ rw c.in-3.is refl

pub returns-in-4 : goal.returns-in-4
unfolding row_of
returns-in-4 c = c.b4.ensures ∙ rw c.in-4.is refl

pub returns-in-5 : goal.returns-in-5
unfolding row_of
returns-in-5 c = c.b5.ensures ∙ rw c.in-5.is refl

pub returns-in-6 : goal.returns-in-6
unfolding row_of
returns-in-6 c = c.b6.ensures ∙ rw c.in-6.is refl

pub returns-in-7 : goal.returns-in-7
unfolding row_of
returns-in-7 c = c.b7.ensures ∙ rw c.in-7.is refl

pub returns-in-8 : goal.returns-in-8
unfolding row_of
returns-in-8 c = c.b8.ensures ∙ rw c.in-8.is refl

pub returns-in-9 : goal.returns-in-9
unfolding row_of
returns-in-9 c = c.b9.ensures ∙ rw c.in-9.is refl

pub returns-in-10 : goal.returns-in-10
unfolding row_of
returns-in-10 c = c.b10.ensures ∙ rw c.in-10.is refl

pub returns-in-11 : goal.returns-in-11
unfolding row_of
returns-in-11 c = c.b11.ensures ∙ rw c.in-11.is refl

pub returns-in_default : goal.returns-in_default
unfolding row_of
returns-in_default c =
    let n = c.args.n in
    c.b12.ensures ∙ rw (ne_eqb n 11 (omega arith), ne_eqb n 10 (omega arith), ne_eqb n 9 (omega arith), ne_eqb n 8 (omega arith), ne_eqb n 7 (omega arith), ne_eqb n 6 (omega arith), ne_eqb n 5 (omega arith), ne_eqb n 4 (omega arith), ne_eqb n 3 (omega arith), ne_eqb n 2 (omega arith)) refl
