-- `decimal::read::tens_in` meets its contract: nothing, or a number with its sign behind the `e`. Assumes nothing.
use Rattle.std.proofs.Common.{◌≡◌, Bool, sym, ap, ◌∙◌}
use Rattle.std.specs.Prelude.{None, Some}
use borrow.Author.Rules.{part_to_end}
use Rattle.decimal.specs.Decimals.{tens_of, tens_in}
use Rattle.decimal.proofs.Reading.{no_tens, tens_by}
use Rattle.decimal.proofs.read.tens_in.Goals as goal
use Rattle.decimal.proofs.read.tens_in.Goals.{In_ok-n}

-- a number was read
read : (c : In_ok-n) → tens_in c.args.word.now ≡ tens_of c.sign_of-sign.result.minus (Some c.in_ok-n.n)
read c = tens_by _ _ c.if-word-eq0.false (part_to_end c.args.word.now 1) _ _ c.sign_of-sign.ensures (Some _) (sym c.in_ok-n.ensures)

pub returns-then-word-eq0 : goal.returns-then-word-eq0
returns-then-word-eq0 c = no_tens _ c.if-word-eq0.true

pub returns-in_err-n : goal.returns-in_err-n
unfolding tens_of
returns-in_err-n c =
    c.from_residual.ensures
    ∙ sym (tens_by _ _ c.if-word-eq0.false (part_to_end c.args.word.now 1) _ _ c.sign_of-sign.ensures None (sym c.in_err-n.ensures))

pub returns-then-sign : goal.returns-then-sign
unfolding tens_of
returns-then-sign c = sym (read (goal.at.returns-then-sign c).In_ok-n ∙ ap (λ (b : Bool). tens_of b (Some c.in_ok-n.n)) c.if-sign.true)

pub returns-else-sign : goal.returns-else-sign
unfolding tens_of
returns-else-sign c = sym (read (goal.at.returns-else-sign c).In_ok-n ∙ ap (λ (b : Bool). tens_of b (Some c.in_ok-n.n)) c.if-sign.false)
